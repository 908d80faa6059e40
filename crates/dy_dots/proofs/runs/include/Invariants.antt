use Rattle.std.proofs.Common.{◌+◌, length}
use Rattle.dy_dots.proofs.Parts.{Compares}
use Rattle.dy_dots.proofs.runs.include.Given as goal

abbrev pub invariant-loop-other : goal.invariant-loop-other
invariant-loop-other l = Compares l.runs l.others l.left l.right

abbrev pub decreases-loop-other : goal.decreases-loop-other
decreases-loop-other l = length l.left + length l.right
