use Rattle.std.proofs.Common.{ℕ, ◌<◌}
use Rattle.dy_sheets.specs.declared.sent.Sent.{Sent}
use Rattle.dy_sheets.specs.Sheets.{IsUnsent}
use Rattle.dy_sheets.proofs.sheets.unsent.Given as goal

-- those before are on their way, or have an answer
abbrev pub invariant-loop-k : goal.invariant-loop-k
invariant-loop-k l =
    (j : ℕ) (s : Sent) → j < l.k → IsUnsent l.sent l.left j s → ⊥
