use Rattle.std.proofs.Common.{◌≡◌, nat_lt, length, map, drop}
use Rattle.std.specs.List.{list_any}
use Rattle.dy_ring.proofs.givens.are_too_many.Given as goal

abbrev pub invariant-loop-list : goal.invariant-loop-list
invariant-loop-list l =
    list_any (λ list. nat_lt 64 (length list)) (map (λ list. list.items) l.lists)
    ≡ list_any (λ list. nat_lt 64 (length list)) (map (λ list. list.items) (drop l.list-index l.lists))
