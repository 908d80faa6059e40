use Rattle.std.proofs.Common.{◌↔◌, length}
use Rattle.dy_core.specs.inside.Meanings.{CanChoose}
use Rattle.dy_core.proofs.allowing.+can_choose.Given as goal

abbrev pub decreases-can_choose : goal.decreases-can_choose
decreases-can_choose l = l.count

abbrev pub invariant-loop-first : goal.invariant-loop-first
invariant-loop-first l = CanChoose l.places l.count ↔ CanChoose l.left l.count

abbrev pub decreases-loop-first : goal.decreases-loop-first
decreases-loop-first l = length l.left
