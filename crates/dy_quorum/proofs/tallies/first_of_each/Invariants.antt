use Rattle.std.proofs.Common.{length, ◌-◌}
use Rattle.dy_quorum.proofs.Keeping.{AreKept}
use Rattle.dy_quorum.proofs.tallies.first_of_each.Given as goal

abbrev pub invariant-loop-at : goal.invariant-loop-at
invariant-loop-at g l = AreKept l.fn.added.items l.added.items l.homes.items l.at

abbrev pub decreases-loop-at : goal.decreases-loop-at
decreases-loop-at g l = length l.added.items - l.at
