use Rattle.std.proofs.Common.{◌≡◌, ◌+◌, length, vec_len, vec_capacity}
use Rattle.dy_cluster.specs.Ends.{GoTogether}
use Rattle.dy_cluster.proofs.locks.retire_all.Given as goal

-- what is out of the locks goes together, and there is room for the rest
abbrev pub invariant-loop-lock : goal.invariant-loop-lock
invariant-loop-lock g l =
    (vec_capacity l.locks ≡ vec_capacity l.initial.locks)
    × (vec_capacity l.shares ≡ vec_capacity l.initial.shares)
    × (vec_capacity l.rests ≡ vec_capacity l.initial.rests)
    × (vec_len l.locks + length l.shares.items ≡ vec_len l.initial.locks)
    × (length l.rests.items ≡ length l.shares.items)
    × GoTogether g.J.Naming.ring g.J.Naming.n l.shares.items l.rests.items

abbrev pub decreases-loop-lock : goal.decreases-loop-lock
decreases-loop-lock g l = goal.left-loop-lock g l
