use Rattle.std.proofs.Common.{◌≤◌, ◌+◌, ◌-◌, None, drop, length, option_map}
use Rattle.dy_siblings.proofs.Lones.{Lones}
use Rattle.dy_siblings.proofs.lone_versions.lone.Given as goal

abbrev pub invariant-loop-same : goal.invariant-loop-same
invariant-loop-same l = (l.same ≤ l.both) × Lones l.a l.b (drop l.same l.a) (drop l.same l.b) None

abbrev pub decreases-loop-same : goal.decreases-loop-same
decreases-loop-same l = l.both - l.same

abbrev pub invariant-loop-theirs : goal.invariant-loop-theirs
invariant-loop-theirs l = Lones l.a l.b l.left l.right (option_map (λ p. (p.0, p.1.now)) l.found)

abbrev pub decreases-loop-theirs : goal.decreases-loop-theirs
decreases-loop-theirs l = length l.left + length l.right
