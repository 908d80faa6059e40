use Rattle.std.proofs.Common.{◌+◌, length}
use Rattle.dy_siblings.proofs.Walking.{Finds}
use Rattle.dy_siblings.proofs.merging.are_among.Given as goal

abbrev pub invariant-loop-mine : goal.invariant-loop-mine
invariant-loop-mine l = Finds l.a l.b l.left l.right

abbrev pub decreases-loop-mine : goal.decreases-loop-mine
decreases-loop-mine l = length l.left + length l.right
