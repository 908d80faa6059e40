-- The lines of steps, and of what sessions were told of the fetches among them.
use Rattle.std.specs.Prelude.{ℕ, ◌+◌, Bool, true, false, List, [], ◌∷◌, ◌++◌, length}
use Rattle.std.specs.Prelude.{get_or, nat_lt, if◌then◌else◌}
use Rattle.dy_shares.specs.declared.kept_steps.KeptStep.{KeptStep}
use Rattle.dy_shares.specs.declared.kept_steps.KeptStep.TheVariants.{Issued, Held, HeldRuns}
use Rattle.dy_shares.specs.declared.kept_steps.KeptStep.TheVariants.{Released, Fetched, Acked}
use Rattle.dy_shares.specs.declared.step_numbers.StepNumbers.{StepNumbers}
use Rattle.dy_lines.specs.Sessions.{session_told}
use Rattle.dy_lines.specs.Steps.{step_text, told_text}
use Rattle.dy_lines.specs.Texts.{line}

-- sessions in the order of their opening: the numbers that lines name them by, and the numbers of
-- the steps that each was told
pub record StepSessions : Type 0 where
  pub numbers : List ℕ
  pub told : List StepNumbers

-- whether a session was told the step of this number
abbrev pub is_told : StepSessions → ℕ → Bool
is_told s number = nat_lt (session_told s.told number) (length s.told)

-- the number of the session that was told it, or 0 where none was
abbrev pub session_of : StepSessions → ℕ → ℕ
session_of s number = get_or s.numbers (session_told s.told number) 0

-- whether the step is a fetch
abbrev pub is_fetch : KeptStep → Bool
is_fetch (Issued v) = false
is_fetch (Held p run key) = false
is_fetch (HeldRuns p key dots) = false
is_fetch (Released p d key) = false
is_fetch (Fetched p key) = true
is_fetch (Acked w d key) = false

-- the fetches that a session was told of stand in one line, with the session of the first; where
-- there are none there is no line
abbrev pub told_line : StepSessions → List ℕ → List ℕ
told_line s [] = []
told_line s (f ∷ fs) = line (told_text (f ∷ fs) (session_of s f))

-- the line of a step
abbrev pub step_line : StepSessions → ℕ → KeptStep → List ℕ
step_line s number step = line (step_text number (session_of s number) step)

-- before the line of a step that is no fetch stands what was told of the fetches before it
abbrev pub line_behind : StepSessions → List ℕ → ℕ → KeptStep → List ℕ
line_behind s fetches number step =
    if is_fetch step then step_line s number step
    else told_line s fetches ++ step_line s number step

-- these fetches, and this one behind them, if a session was told of it
abbrev pub fetches_with : StepSessions → List ℕ → ℕ → List ℕ
fetches_with s fetches number = if is_told s number then fetches ++ number ∷ [] else fetches

-- the fetches that are still to be told behind the step, which are none behind one that is no fetch
abbrev pub fetches_behind : StepSessions → List ℕ → ℕ → KeptStep → List ℕ
fetches_behind s fetches number step =
    if is_fetch step then fetches_with s fetches number else []

-- the lines of these steps, numbered from here, where these fetches before them are still to be
-- told
abbrev pub step_lines : StepSessions → List ℕ → ℕ → List KeptStep → List ℕ
step_lines s fetches number [] = told_line s fetches
step_lines s fetches number (k ∷ ks) =
    line_behind s fetches number k
    ++ step_lines s (fetches_behind s fetches number k) (number + 1) ks
