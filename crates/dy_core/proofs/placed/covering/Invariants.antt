use Rattle.std.proofs.Common.{◌≡◌, take}
use Rattle.dy_core.specs.Listings.{is_covering, place_of}
use Rattle.dy_core.specs.Orders.{place_cmp, gathered}
use Rattle.dy_core.proofs.placed.covering.Given as goal

abbrev pub invariant-loop-item : goal.invariant-loop-item
invariant-loop-item g l =
    l.places.items ≡ gathered place_cmp (λ t. is_covering l.key l.dot (g.T.Placed.holding t)) (λ t. place_of (g.T.Placed.holding t))
    (take l.item-index l.held)
