use Rattle.std.proofs.Common.{◌≡◌, ℕ, ◌<◌, ◌≤◌, max, map, take, length, slice_index_or}
use mathlib.Core.List.{IsPrefix}
use Rattle.dy_core.specs.Logs.{Answer, IsAnswer}
use Rattle.dy_shares.specs.Shares.{steps_of, greatest}
use Rattle.dy_shares.proofs.session_shares.learn_all.Given as goal

-- so far each answer is one of the front, and the latest is the greatest number
abbrev pub invariant-loop-seen : goal.invariant-loop-seen
invariant-loop-seen g l =
    IsPrefix l.initial.front l.front
    × ((k : ℕ) (d : Answer) → k < l.seen-index → IsAnswer (steps_of l.front) (slice_index_or l.fn.seens k d))
    × (l.latest ≡ max l.fn.since (greatest (map (λ a. a.at) (take l.seen-index l.fn.seens))))
    × (l.latest ≤ length l.front)
