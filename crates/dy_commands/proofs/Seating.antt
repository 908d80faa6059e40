-- Where sessions are.
use Rattle.std.proofs.Common.{◌≡◌, ◌==◌, ◌<◌, ℕ, List, [], ◌∷◌, ◌++◌, length, get_or, false}
use Rattle.std.proofs.Common.{Option, Some, None, Bool, true, false, unwrap_or, sym, ap, ◌∙◌}
use Rattle.std.proofs.Common.{arith, eq-eqb}
use Rattle.std.proofs.lemmas.Bool.{true≢false}
use Rattle.std.specs.Prelude.{◌⊎◌, slice_get, slice_set}
use Rattle.std.proofs.lemmas.Grind.{common_steps}
use Rattle.std.proofs.lemmas.List.Folds.{position_or_len_push}
use Rattle.std.proofs.lemmas.List.Sums.{position_or_len_is}
use Rattle.std.proofs.lemmas.Option.{slice_get-get_or}
use Rattle.dy_dots.specs.declared.faults.Fault.{Fault}
use Rattle.dy_dots.specs.declared.faults.Fault.TheVariants.{OutOfMemory, TooMany}
use Rattle.dy_lines.specs.declared.outcomes.Outcome.{Outcome}
use Rattle.dy_lines.specs.declared.outcomes.Outcome.TheVariants.{Refused}
use Rattle.dy_lines.specs.declared.outcomes.Word.{Word}
use Rattle.dy_shares.specs.Shares.{SessionPart}
use Rattle.dy_plans.specs.Openings.{given_or}
use Rattle.dy_commands.specs.Seats.{IsSeated, IsToldAt, seat_of}
use Rattle.dy_commands.specs.Writes.{IsTriedAt}

-- the first place that has the number
pub seat_of-at : (number : ℕ) (numbers : List ℕ) (i : ℕ) → i < length numbers
    → ((k : ℕ) → k < i → (get_or numbers k 0 == number) ≡ false)
    → get_or numbers i 0 ≡ number → i ≡ seat_of number numbers
seat_of-at number numbers i within before here =
    sym (position_or_len_is (λ n. n == number) numbers i 0 (omega arith) before
    (λ _. eq-eqb (get_or numbers i 0) number here))

-- a number that is not there
pub seat_of-none : (number : ℕ) (numbers : List ℕ) (i : ℕ) → i ≡ length numbers
    → ((k : ℕ) → k < i → (get_or numbers k 0 == number) ≡ false)
    → length numbers ≡ seat_of number numbers
seat_of-none number numbers i all before =
    sym (position_or_len_is (λ n. n == number) numbers (length numbers) 0 (omega arith)
    (λ k h. before k (omega arith)) (λ h. absurd (omega (arith, h))))

-- where it is once it has been put behind the others
pub seat_of-push : (number : ℕ) (numbers : List ℕ) → seat_of number numbers ≡ length numbers →
    seat_of number (numbers ++ number ∷ []) ≡ length numbers
seat_of-push number numbers none =
    position_or_len_push (λ n. n == number) numbers number ∙ grind (arith, common_steps, none)

-- the session at this place was told so
pub told_at : (at place : ℕ) (before seated : List SessionPart) (old new : SessionPart)
    (Tells : SessionPart → SessionPart → Type 0)
    → at ≡ place → at < length seated → old ≡ get_or seated at old → IsSeated before seated
    → Tells old new → IsToldAt place before (slice_set seated at new) Tells
told_at at place before seated old new Tells same within here opened tells = record {
  seated = seated;
  opened = opened;
  old = old;
  old_is = ap (slice_get seated) (sym same) ∙ slice_get-get_or seated at old within
      ∙ ap Some (sym here);
  new = new;
  after_is = ap (λ (k : ℕ). slice_set seated k new) same;
  tells = tells;
}

-- a session that is open was tried
pub tried_at : (place : ℕ) (word : Word) (outcome : Outcome) (refused : Bool)
    (before after : List SessionPart) (Tells : SessionPart → SessionPart → Type 0)
    → refused ≡ false → IsToldAt place before after Tells →
    IsTriedAt place word outcome refused before after Tells
tried_at place word outcome refused before after Tells seated told =
    (λ _. told, λ e. absurd (true≢false (sym e ∙ seated)))

-- one that was refused was not
pub untried_at : (place : ℕ) (word : Word) (outcome : Outcome) (refused : Bool)
    (before after : List SessionPart) (Tells : SessionPart → SessionPart → Type 0) (f : Fault)
    → refused ≡ true → after ≡ before → (f ≡ OutOfMemory) ⊎ (f ≡ TooMany)
    → outcome ≡ Refused word f None →
    IsTriedAt place word outcome refused before after Tells
untried_at place word outcome refused before after Tells f shut same only told =
    (λ e. absurd (true≢false (sym shut ∙ e)), λ _. (same, (f, only, told)))

-- the number that was named, or else this
pub number_of_homes : (w : ℕ) (own : Option ℕ) (n : ℕ) → n ≡ unwrap_or own w → n ≡ given_or w own
number_of_homes w None n e = e
number_of_homes w (Some x) n e = e
