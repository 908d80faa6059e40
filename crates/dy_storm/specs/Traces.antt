-- What a storm prints of its steps.
use Rattle.std.specs.Prelude.{ℕ, List, ◌++◌, codes, Bool, if◌then◌else◌}
use Rattle.std.specs.List.{enumerate_from, flat_map}
use Rattle.dy_shares.specs.Shares.{SessionPart}
use Rattle.dy_shares.specs.declared.kept_steps.KeptStep.{KeptStep}
use Rattle.dy_book.specs.declared.audits.Audit.{Audit}
use Rattle.dy_lines.specs.Clusters.{cluster_lines}
use Rattle.dy_lines.specs.Sessions.{session_told}
use Rattle.dy_lines.specs.Steps.{step_text}
use Rattle.dy_lines.specs.Tellings.{session_lines}
use Rattle.dy_lines.specs.Texts.{line}

-- a step with its number, and the session of that number
abbrev pub step_line : (ℕ → ℕ) → ℕ × KeptStep → List ℕ
step_line session_of s = line (step_text s.0 (session_of s.0) s.1)

-- each step of the log, numbered from 1, with the session that was told it
abbrev pub step_lines : Audit → List ℕ
step_lines a =
    flat_map (step_line (session_told a.told.items)) (enumerate_from 1 a.history.trail.items)

-- the gets that each session was told, numbered from 0
abbrev pub all_gets : List SessionPart → List ℕ
all_gets tellings = flat_map session_lines (enumerate_from 0 tellings)

-- where steps are wanted: the cluster, on a ring with these tokens, its steps, and these of its
-- gets
abbrev pub trace_lines : Bool → List (ℕ × ℕ) → Audit → List ℕ → List ℕ
trace_lines is_wanted tokens a gets =
    if is_wanted then cluster_lines 3 2 2 tokens ++ step_lines a ++ gets else codes ""
