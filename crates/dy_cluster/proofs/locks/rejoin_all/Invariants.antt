use Rattle.std.proofs.Common.{◌≡◌, ◌+◌, length, vec_len, vec_capacity}
use Rattle.dy_cluster.specs.Ends.{GoTogether}
use Rattle.dy_cluster.proofs.locks.rejoin_all.Given as goal

-- what is left goes together, and there is room for it
abbrev pub invariant-loop-share : goal.invariant-loop-share
invariant-loop-share g l =
    (vec_capacity l.locks ≡ vec_capacity l.initial.locks)
    × (vec_capacity l.shares ≡ vec_capacity l.initial.shares)
    × (vec_capacity l.rests ≡ vec_capacity l.initial.rests)
    × (vec_len l.locks + length l.shares.items
    ≡ vec_len l.initial.locks + length l.initial.shares.items)
    × (length l.rests.items ≡ length l.shares.items)
    × GoTogether g.J.Naming.ring g.J.Naming.n l.shares.items l.rests.items

abbrev pub decreases-loop-share : goal.decreases-loop-share
decreases-loop-share g l = length l.shares.items
