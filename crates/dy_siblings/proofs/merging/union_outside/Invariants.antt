use Rattle.std.proofs.Common.{◌+◌, ◌≤◌, length, vec_capacity}
use Rattle.dy_siblings.proofs.Walking.{Walks}
use Rattle.dy_siblings.proofs.merging.union_outside.Given as goal

abbrev pub invariant-loop-next : goal.invariant-loop-next
invariant-loop-next l =
    Walks l.past l.a l.b l.kept.items l.left l.right
    × (length l.kept.items + (length l.left + length l.right) ≤ vec_capacity l.kept)

abbrev pub decreases-loop-next : goal.decreases-loop-next
decreases-loop-next l = length l.left + length l.right
