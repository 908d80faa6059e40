-- The lines that a storm prints.
use Rattle.std.specs.Prelude.{ℕ, List, ◌++◌, codes, decimal, Bool}
use Rattle.dy_shares.specs.Shares.{SessionPart}
use Rattle.dy_lines.specs.Texts.{line}
use Rattle.dy_storm.specs.Traces.{all_gets, trace_lines}
use Rattle.dy_storm.specs.declared.counts.Counts.{Counts}
use Rattle.dy_storm.specs.declared.storms.StormDone.{StormDone}

-- the puts acknowledged, the gets answered, and those of both that were refused
abbrev pub counts_text : ℕ → ℕ → ℕ → List ℕ
counts_text acked gets refused =
    codes "end acked " ++ decimal acked ++ codes " gets " ++ decimal gets
    ++ codes " refused " ++ decimal refused

-- the line of the counts
abbrev pub counts_line : Counts → List ℕ
counts_line counts = line (counts_text counts.acked counts.gets counts.refused)

-- the steps where they are wanted, of a storm on a ring with these tokens, and the gets of its
-- sessions; and then its counts
abbrev pub storm_lines : Bool → List (ℕ × ℕ) → List SessionPart → StormDone → List ℕ
storm_lines has_steps tokens tellings done =
    trace_lines has_steps tokens done.closed.audit (all_gets tellings) ++ counts_line done.counts
