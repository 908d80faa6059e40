use Rattle.std.proofs.Common.{◌≡◌, length}
use Rattle.dy_siblings.proofs.merging.are_same.Given as goal

abbrev pub invariant-loop-mine : goal.invariant-loop-mine
invariant-loop-mine l =
    (length l.left ≡ length l.right) × (l.left ≡ l.right → l.a ≡ l.b) × (l.a ≡ l.b → l.left ≡ l.right)

abbrev pub decreases-loop-mine : goal.decreases-loop-mine
decreases-loop-mine l = length l.left
