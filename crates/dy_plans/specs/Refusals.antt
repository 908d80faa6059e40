-- Which refusal of a script comes first, and which others there are.
use Rattle.std.specs.Prelude.{◌≡◌, ◌⊎◌, ℕ, List, Option, Result, Ok, Err, IfErr, IsErrOf}
use Rattle.dy_dots.specs.declared.faults.Fault.{Fault}
use Rattle.dy_dots.specs.declared.faults.Fault.TheVariants.{BadQuorum, OutOfMemory, SharesMissing}
use Rattle.dy_dots.specs.declared.faults.Fault.TheVariants.{TooMany}
use Rattle.dy_ring.specs.Rings.{Tokens}
use Rattle.dy_book.specs.Limits.{AreLimits, IsQuorum}
use Rattle.dy_book.specs.declared.options.Options.{Options}
use Rattle.dy_lines.specs.Stops.{IsStoppedFor}
use Rattle.dy_lines.specs.declared.stops.Stopped.{Stopped}
use Rattle.dy_lines.specs.declared.stops.Stopped.TheVariants.{Refused}

-- what is refused first, where this was made of the layout: the ring, then a limit that is out of
-- its range, and then numbers of homes and answers that do not fit the ring
abbrev pub IsFirstRefusal : Result Tokens Fault → Options → Fault → Type 0
IsFirstRefusal (Err refused) options f = refused ≡ f
IsFirstRefusal (Ok ring) options f =
    (¬ (AreLimits options) × (TooMany ≡ f))
    ⊎ (AreLimits options × ¬ (IsQuorum options ring.nodes) × (BadQuorum ≡ f))

-- each such refusal stopped this, and nothing was written before it
abbrev pub IsStoppedBy :
    {T : Type 0} → (Fault → Type 0) → Result T Stopped → Option (List ℕ) → Option (List ℕ)
    → Type 0
IsStoppedBy Refuses result before after =
    (f : Fault) → Refuses f → IsErrOf result (Refused f) × (after ≡ before)

-- memory ran out, or a share of the cluster was missing, which never is
abbrev pub HasFailed : Fault → Type 0
HasFailed f = (f ≡ OutOfMemory) ⊎ (f ≡ SharesMissing)

-- where a refusal stopped this, it is such a one, or the run has failed
abbrev pub IsStoppedOnlyBy : {T : Type 0} → (Fault → Type 0) → Result T Stopped → Type 0
IsStoppedOnlyBy Refuses result = IfErr result (IsStoppedFor (λ f. Refuses f ⊎ HasFailed f))
