-- Why a delivery is refused.
use Rattle.std.proofs.Common.{◌≡◌, ◌⊎◌, ◌↔◌, ℕ, Bool, true, false, refl, ap, inl, inr}
use Rattle.std.proofs.Common.{Result, Ok, Err, IfErr, IsErrOf}
use Rattle.dy_dots.specs.declared.dots.Dot.{Dot}
use Rattle.dy_dots.specs.declared.faults.Fault.{Fault}
use Rattle.dy_dots.specs.declared.faults.Fault.TheVariants.{Down, NotIssued, OutOfMemory}
use Rattle.dy_dots.specs.declared.faults.Fault.TheVariants.{StepsFull}
use Rattle.dy_cluster.specs.Deliveries.{IsDeliveryRefusal}

abbrev fault_of : Fault → Result ℕ Fault → Fault
fault_of f (Ok count) = f
fault_of f (Err e) = e

-- by a node that is up for one of these, and by one that is down for that
pub delivery_refused : {P : Fault → Type 0} (up : Bool) (answer : Result ℕ Fault) →
    (IsErrOf answer Down ↔ (up ≡ false)) → IfErr answer (λ f. up ≡ true → P f) →
    ((f : Fault) → P f →
    ((d : Dot) × (f ≡ NotIssued d)) ⊎ ((f ≡ StepsFull) ⊎ (f ≡ OutOfMemory))) →
    IfErr answer IsDeliveryRefusal
delivery_refused up (Ok count) down stopped one = tt
delivery_refused {P} up (Err f) down stopped one = go up refl
  where
    go : (b : Bool) → up ≡ b → IsDeliveryRefusal f
    go true is = inr (one f (stopped is))
    go false is = inl (ap (fault_of f) (down.1 is))
