use Rattle.std.proofs.Common.{◌≡◌, map}
use Rattle.std.specs.List.{range_with_len}
use Rattle.dy_ring.specs.Lists.{derived_token}
use Rattle.dy_ring.proofs.givens.list_of.Given as goal

abbrev pub invariant-loop-number : goal.invariant-loop-number
invariant-loop-number l = l.list.items ≡ map (derived_token l.node) (range_with_len 0 l.number)
