use Rattle.std.proofs.Common.{◌≡◌, ◌+◌, length, reverse, vec_len, vec_capacity}
use Rattle.dy_cluster.specs.Firsts.{AreFirstFrom}
use Rattle.dy_cluster.proofs.locks.lock_all.Given as goal

-- the last of what is left is the share of the next node, and there is room for all
abbrev pub invariant-loop-share : goal.invariant-loop-share
invariant-loop-share g l =
    (vec_len l.locks + length l.shares.items
    ≡ vec_len l.initial.locks + length l.initial.shares.items)
    × (vec_capacity l.locks ≡ vec_capacity l.initial.locks)
    × (vec_capacity l.shares ≡ vec_capacity l.initial.shares)
    × AreFirstFrom (vec_len l.locks) (reverse l.shares.items)

abbrev pub decreases-loop-share : goal.decreases-loop-share
decreases-loop-share g l = length l.shares.items
