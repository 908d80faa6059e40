-- How calls over a connection end, whose transport tells first this and then that.
use Rattle.std.specs.Prelude.{◌≡◌, ◌⊎◌, [], List, ℕ, Option, None, Result}
use Rattle.dy_dots.specs.Dots.{DotSet}
use Rattle.dy_dots.specs.declared.faults.Fault.TheVariants.{OutOfMemory}
use Rattle.dy_siblings.specs.Siblings.{Siblings}
use Rattle.dy_preference.specs.Preferences.{Preferred}
use Rattle.dy_core.specs.Logs.{Answer}
use Rattle.dy_shares.specs.Shares.{SessionPart}
use Rattle.dy_transport.specs.Told.{Told, nothing_told}
use Rattle.dy_coord.specs.Gets.{IsGetRefused}
use Rattle.dy_coord.specs.PutEnds.{PutEnds, PutRefuses}
use Rattle.dy_coord.specs.declared.get_faults.GetFault.{GetFault}
use Rattle.dy_coord.specs.declared.put_results.PutDone.{PutDone}
use Rattle.dy_coord.specs.declared.put_results.PutFault.{PutFault}
use Rattle.dy_repair.specs.Repairs.{IsRepaired}
use Rattle.dy_repair.specs.Stales.{AreCurrent}

module _ {J : Type 0} where
  -- a put over a transport that told nothing yet; or memory was wanting before it began, and the
  -- transport still tells of the call before
  abbrev pub PutEndsAnew : Preferred → ℕ → List ℕ → DotSet → Option (List ℕ)
      → SessionPart → SessionPart → Told J → Told J → Result (PutDone J) PutFault → Type 0
  PutEndsAnew list w key context value before after old new result =
      PutEnds list w key context value before after (nothing_told old.room) new result
      ⊎ ((after ≡ before) × (new ≡ old)
      × PutRefuses result None [] (λ f. f ≡ OutOfMemory))

  -- why a get was refused over a transport that told nothing yet; or memory was wanting before it
  -- began, and the transport still tells of the call before
  abbrev pub IsRefusedAnew : Preferred → List ℕ → ℕ → ℕ → Told J → Told J → GetFault → Type 0
  IsRefusedAnew list key r since old new e =
      IsGetRefused list key r since new e
      ⊎ ((new ≡ old) × (e.answers.items ≡ []) × (e.fault ≡ OutOfMemory))

  -- what a get found stale was repaired, over a transport that was tried by nobody; or no home was
  -- stale, and nobody was asked
  abbrev pub IsMended : List ℕ → Siblings → List Answer → Told J → Told J → Type 0
  IsMended homes row answers old new =
      (IsRepaired homes row answers new × (new.tries ≡ []))
      ⊎ (AreCurrent row answers × (new ≡ old))
