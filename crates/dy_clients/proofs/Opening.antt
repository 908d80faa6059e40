-- A run whose cluster is not opened ends by what the opening is refused for.
use Rattle.std.proofs.Common.{◌≡◌, ℕ, ap, inl, inr, refl, subst, sym, ⊎_elim}
use Rattle.std.proofs.lemmas.Result.{IfErr-at_err}
use Rattle.std.specs.Prelude.{◌⊎◌, ◌↔◌, Result, Ok, Err, IsErrAnd, IsErrOf}
use Rattle.dy_dots.specs.declared.faults.Fault.{Fault}
use Rattle.dy_dots.specs.declared.faults.Fault.TheVariants.{BadQuorum, OutOfMemory, TooMany}
use Rattle.dy_ring.specs.Rings.{Tokens}
use Rattle.dy_book.specs.Limits.{AreLimits, IsQuorum}
use Rattle.dy_book.specs.declared.options.Options.{Options}
use Rattle.dy_clients.specs.Runs.{EndsRun}
use Rattle.dy_clients.specs.Tellings.{ClientSaying}
use Rattle.dy_clients.specs.declared.clients_done.ClientsDone.{ClientsDone}

module _ {T : Type 0} where
  -- a refusal is for one fault
  same_fault : (f g : Fault) → IsErrOf {T = T} (Err f) g → f ≡ g
  same_fault f g is = IfErr-at_err {T = T} (λ h. f ≡ h) is refl

-- what is passed on of an opening, whatever that would have given
pub refused_ends : {T : Type 0} (ring : Tokens) (options : Options) (clients : ℕ)
    (says : ClientSaying) (f : Fault) (r : Result ClientsDone Fault) → IsErrAnd r (λ g. g ≡ f) →
    (IsErrOf {T = T} (Err f) TooMany ↔ ¬ (AreLimits options)) →
    (IsErrOf {T = T} (Err f) BadQuorum
    ↔ (AreLimits options × ¬ (IsQuorum options ring.nodes))) →
    ((f ≡ TooMany) ⊎ (f ≡ BadQuorum) ⊎ (f ≡ OutOfMemory)) → EndsRun ring options clients says r
refused_ends ring options clients says f (Ok done) gives too_many bad_quorum only = absurd gives
refused_ends {T} ring options clients says f (Err g) gives too_many bad_quorum only =
    subst (λ (h : Fault). EndsRun ring options clients says (Err h)) (sym gives) (record {
      stores = tt;
      closed = tt;
      too_many = λ beyond. ap Err (same_fault {T = T} f TooMany (too_many.1 beyond));
      bad_quorum = (
        λ is. bad_quorum.0 (ap Err (same_fault {T = ClientsDone} f BadQuorum is)),
        λ unfit. ap Err (same_fault {T = T} f BadQuorum (bad_quorum.1 unfit)),
      );
      only = ⊎_elim (λ many. inr (inr (inl many))) (⊎_elim inl (λ memory. inr (inl memory))) only;
    })
