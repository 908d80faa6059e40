use Rattle.std.proofs.Common.{◌≡◌, map}
use Rattle.std.specs.List.{range_with_len}
use Rattle.dy_ring.specs.Lists.{derived_list}
use Rattle.dy_ring.proofs.givens.lists_of.Given as goal

abbrev pub invariant-loop-node : goal.invariant-loop-node
invariant-loop-node l =
    map (λ list. list.items) l.lists.items ≡ map (λ node. derived_list node l.per_node) (range_with_len 0 l.node)
