use Rattle.std.proofs.Common.{◌≡◌, ◌<◌, ℕ, false, get_or}
use Rattle.dy_core.specs.Logs.{Answer}
use Rattle.dy_repair.specs.inside.Telling.{tells_stale}
use Rattle.dy_repair.proofs.staleness.are_current.Given as goal

-- none of those before is stale
abbrev pub invariant-loop-answer : goal.invariant-loop-answer
invariant-loop-answer g l = (k : ℕ) (d : Answer) → k < l.answer-index →
    tells_stale l.row (get_or l.seens k d) ≡ false
