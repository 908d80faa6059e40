use Rattle.std.proofs.Common.{◌≡◌, ◌++◌, map, drop}
use Rattle.dy_ring.proofs.givens.add.Given as goal

abbrev pub invariant-loop-position : goal.invariant-loop-position
invariant-loop-position l =
    l.tokens.items ++ map (λ p. (p, l.node)) (drop l.position-index l.list)
    ≡ l.fn.tokens.items ++ map (λ p. (p, l.node)) l.list
