use Rattle.std.proofs.Common.{◌≡◌, ◌++◌, map, drop, ◌<◌, ◌^◌}
use Rattle.std.specs.List.{All}
use Rattle.dy_ring.specs.inside.Making.{pairs_from}
use Rattle.dy_ring.proofs.givens.pairs_of.Given as goal

abbrev pub invariant-loop-number : goal.invariant-loop-number
invariant-loop-number l = record {
  so_far :
      l.tokens.items ++ pairs_from l.number (map (λ list. list.items) (drop l.number l.lists))
      ≡ pairs_from 0 (map (λ list. list.items) l.lists);
  positions : All (λ t. t.0 < 2 ^ 128) l.tokens.items;
}
