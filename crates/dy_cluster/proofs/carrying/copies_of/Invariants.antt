use Rattle.std.proofs.Common.{◌≡◌, ◌++◌, drop, map}
use Rattle.dy_cluster.proofs.carrying.copies_of.Given as goal

-- the copies, with those to come
abbrev pub invariant-loop-present : goal.invariant-loop-present
invariant-loop-present l =
    l.copies.items ++ map (λ x. x.value) (drop l.present-index l.values)
    ≡ map (λ x. x.value) l.values
