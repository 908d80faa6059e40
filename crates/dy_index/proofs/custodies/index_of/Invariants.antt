use Rattle.std.proofs.Common.{◌≡◌, drop}
use Rattle.std.specs.List.{list_any}
use Rattle.dy_core.specs.inside.Meanings.{is_at, row_in}
use Rattle.dy_index.proofs.custodies.index_of.Given as goal

abbrev pub invariant-loop-at : goal.invariant-loop-at
invariant-loop-at l =
    (row_in l.places l.holder l.home l.key ≡ row_in (drop l.at l.places) l.holder l.home l.key)
    × (list_any (is_at l.holder l.home l.key) l.places
    ≡ list_any (is_at l.holder l.home l.key) (drop l.at l.places))
