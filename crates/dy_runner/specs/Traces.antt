-- What `dynamo run` prints of the steps that the book made, below the commands.
use Rattle.std.specs.Prelude.{◌≡◌, ℕ, ◌+◌, List, [], ◌∷◌, ◌++◌, map, length}
use Rattle.std.specs.List.{flat_map}
use Rattle.dy_shares.specs.declared.kept_steps.KeptStep.{KeptStep}
use Rattle.dy_lines.specs.Outcomes.{command_text}
use Rattle.dy_lines.specs.StepLines.{StepSessions, step_lines}
use Rattle.dy_lines.specs.Texts.{line}
use Rattle.dy_lines.specs.declared.outcomes.Outcome.{Outcome}
use Rattle.dy_runner.specs.declared.traces.Trace.{Trace}

-- the sessions of a trace, by the script's numbers of them
abbrev pub sessions_of : Trace → StepSessions
sessions_of trace = record { numbers = trace.numbers.now; told = trace.told.now }

-- a command that was done: what came of it, and the steps that the book made
pub record Traced : Type 0 where
  pub outcome : Outcome
  pub steps : List KeptStep

-- all steps of these commands, in their order
abbrev pub steps_in : List Traced → List KeptStep
steps_in traced = flat_map (λ t. t.steps) traced

-- the line of a command, and right below it those of its steps, which are numbered from here
abbrev pub command_lines : StepSessions → ℕ → ℕ → Traced → List ℕ
command_lines s number step t =
    line (command_text number t.outcome) ++ step_lines s [] step t.steps

-- those of each command; commands and steps are numbered from here
abbrev pub traced_lines : StepSessions → ℕ → ℕ → List Traced → List ℕ
traced_lines s number step [] = []
traced_lines s number step (t ∷ ts) =
    command_lines s number step t ++ traced_lines s (number + 1) (step + length t.steps) ts

-- these are the lines of commands with these outcomes, with each step of the log once, in its
-- order: each command has its own right below it, and the rest stands behind the last
pub record AreTraced (s : StepSessions) (outcomes : List Outcome) (log : List KeptStep)
    (wrote : List ℕ) : Type 0 where
  pub traced : List Traced
  pub outcomes_are : map (λ t. t.outcome) traced ≡ outcomes
  pub rest : List KeptStep
  pub steps_are : steps_in traced ++ rest ≡ log
  pub wrote_is : wrote ≡ traced_lines s 1 1 traced
      ++ step_lines s [] (length (steps_in traced) + 1) rest
