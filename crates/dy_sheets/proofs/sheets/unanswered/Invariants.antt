use Rattle.std.proofs.Common.{◌≡◌, ℕ, ◌<◌, get_or}
use Rattle.dy_sheets.proofs.sheets.unanswered.Given as goal

-- those before have fewer left
abbrev pub invariant-loop-k : goal.invariant-loop-k
invariant-loop-k l = (k : ℕ) → k < l.k → get_or l.left k 0 ≡ 2 → ⊥
