-- What is printed of steps, one behind the other.
use Rattle.std.proofs.Common.{◌≡◌, ◌∙◌, ◌+◌, ◌<◌, ◌≤◌, ◌++◌, ◌∷◌, [], ℕ, zero, suc, List, Option}
use Rattle.std.proofs.Common.{length, drop, get_or, slice_index_or, refl, sym, ap, subst, arith}
use Rattle.std.proofs.Common.{append_assoc}
use Rattle.std.proofs.KnownBytes.{Appends-nil, Appends-trans}
use Rattle.std.proofs.lemmas.List.{drop_more}
use Rattle.std.specs.Io.KnownBytes.{Appends}
use Rattle.dy_shares.specs.declared.kept_steps.KeptStep.{KeptStep}
use Rattle.dy_lines.specs.StepLines.{StepSessions, fetches_behind, line_behind, session_of}
use Rattle.dy_lines.specs.StepLines.{step_lines, told_line}
use Rattle.dy_lines.specs.Steps.{told_text}
use Rattle.dy_lines.specs.Texts.{line}
use Rattle.dy_lines.specs.inside.Fetches.{IsFirstBetween}

-- of all that is to be written, this is left
pub record Leaves (first now : Option (List ℕ)) (left all : List ℕ) : Type 0 where
  pub wrote : List ℕ
  pub appended : Appends first now wrote
  pub makes : wrote ++ left ≡ all

-- nothing is written yet
pub leaves_all : (now : Option (List ℕ)) (all : List ℕ) → Leaves now now all all
leaves_all now all = record { wrote = []; appended = Appends-nil now; makes = refl }

-- one more piece is written
leaves_less : (first now next : Option (List ℕ)) (piece left all : List ℕ) →
    Leaves first now (piece ++ left) all → Appends now next piece → Leaves first next left all
leaves_less first now next piece left all before one = record {
  wrote = before.wrote ++ piece;
  appended = Appends-trans first now next _ _ before.appended one;
  makes = append_assoc before.wrote piece left ∙ before.makes;
}

-- nothing of the steps is written yet
pub steps_none : (s : StepSessions) (steps : List KeptStep) (before : ℕ)
    (now : Option (List ℕ)) →
    Leaves now now (step_lines s [] (before + 0 + 1) (drop 0 steps))
    (step_lines s [] (before + 1) steps)
steps_none s steps before now =
    subst (λ (n : ℕ). Leaves now now (step_lines s [] n steps) (step_lines s [] (before + 1) steps))
    (omega arith) (leaves_all now (step_lines s [] (before + 1) steps))

-- the step at this place is written behind those before it
pub steps_next : (s : StepSessions) (fs gs : List ℕ) (steps : List KeptStep) (before at : ℕ)
    (step : KeptStep) (first now next : Option (List ℕ)) (all : List ℕ) → at < length steps →
    step ≡ slice_index_or steps at step →
    Leaves first now (step_lines s fs (before + at + 1) (drop at steps)) all →
    Appends now next (line_behind s fs (before + at + 1) step) →
    gs ≡ fetches_behind s fs (before + at + 1) step →
    Leaves first next (step_lines s gs (before + (at + 1) + 1) (drop (at + 1) steps)) all
steps_next s fs gs steps before at step first now next all within is left one fetches =
    let rest = drop (at + 1) steps in
    let more : drop at steps ≡ step ∷ rest =
    drop_more steps at step within ∙ ap (λ (k : KeptStep). k ∷ rest) (sym is) in
    let opened = ap (step_lines s fs (before + at + 1)) more in
    let number : before + at + 1 + 1 ≡ before + (at + 1) + 1 = omega arith in
    subst (λ (hs : List ℕ). Leaves first next (step_lines s hs (before + (at + 1) + 1) rest) all)
    (sym fetches)
    (subst (λ (n : ℕ). Leaves first next (step_lines s
    (fetches_behind s fs (before + at + 1) step) n rest) all) number
    (leaves_less first now next (line_behind s fs (before + at + 1) step) _ all
    (subst (λ (l : List ℕ). Leaves first now l all) opened left) one))

drop_past : (steps : List KeptStep) (at : ℕ) → length steps ≤ at → drop at steps ≡ []
drop_past [] zero past = refl
drop_past [] (suc at) past = refl
drop_past (k ∷ ks) zero past = absurd (omega (arith, past))
drop_past (k ∷ ks) (suc at) past = drop_past ks at (omega (arith, past))

-- and what was told of the last fetches ends them
pub steps_end : (s : StepSessions) (fs : List ℕ) (number : ℕ) (steps : List KeptStep) (at : ℕ)
    (first now last : Option (List ℕ)) (all : List ℕ) → length steps ≤ at →
    Leaves first now (step_lines s fs number (drop at steps)) all →
    Appends now last (told_line s fs) → Appends first last all
steps_end s fs number steps at first now last all past left one =
    let told : step_lines s fs number (drop at steps) ≡ told_line s fs =
    ap (step_lines s fs number) (drop_past steps at past) in
    subst (Appends first last) (ap (λ l. left.wrote ++ l) (sym told) ∙ left.makes)
    (Appends-trans first now last _ _ left.appended one)

-- one more fetch stands behind the others
pub first_with : (before last number : ℕ) (fs : List ℕ) → before < number → number ≤ last →
    IsFirstBetween before last fs → IsFirstBetween before last (fs ++ number ∷ [])
first_with before last number [] behind within first = (behind, within)
first_with before last number (f ∷ fs) behind within first = first

-- the first is that of a step
pub first_is_behind : (before last : ℕ) (fs : List ℕ) → 0 < length fs →
    IsFirstBetween before last fs → before < get_or fs 0 0
first_is_behind before last [] some first = absurd (omega (arith, some))
first_is_behind before last (f ∷ fs) some first = first.0

pub first_is_within : (before last : ℕ) (fs : List ℕ) → 0 < length fs →
    IsFirstBetween before last fs → get_or fs 0 0 ≤ last
first_is_within before last [] some first = absurd (omega (arith, some))
first_is_within before last (f ∷ fs) some first = first.1

-- where there are some, their line has the session of the first
pub told_line-is : (s : StepSessions) (fs : List ℕ) (session : ℕ) → 0 < length fs →
    session ≡ session_of s (get_or fs 0 0) → line (told_text fs session) ≡ told_line s fs
told_line-is s [] session some of = absurd (omega (arith, some))
told_line-is s (f ∷ fs) session some of = ap (λ (n : ℕ). line (told_text (f ∷ fs) n)) of

-- where there are none there is no line
pub told_line-none : (s : StepSessions) (fs : List ℕ) → length fs ≡ 0 → told_line s fs ≡ []
told_line-none s [] none = refl
told_line-none s (f ∷ fs) none = absurd (omega (arith, none))
