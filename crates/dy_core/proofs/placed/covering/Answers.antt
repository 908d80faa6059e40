use Rattle.std.proofs.Common.{sym, ap, ◌∙◌}
use Rattle.dy_core.specs.Listings.{is_covering, place_of}
use Rattle.dy_core.specs.Orders.{place_cmp, put}
use Rattle.dy_core.proofs.Gathering.{gathered_passed, gathered_skipped}
use Rattle.dy_core.proofs.placed.covering.Goals as goal
use Rattle.dy_core.proofs.placed.covering.Goals.{then-is_covering+in_ok-put, else-is_covering}

-- one item more is put into its place, where it covers
pub loop-item-preserved : goal.loop-item-preserved
loop-item-preserved g c =
    let holding = g.T.Placed.holding in
    let i = c.loop-item.item-index in
    elim c.if-is_covering.branch [
      | then-is_covering+in_ok-put w ↦
          ap (λ ps. ps.items) w.places-is ∙ (w.in_ok-put.ensures.ok ∙ ((λ j. put place_cmp (c.loop-item.invariant j) (w.place.ensures j))
          ∙ sym (gathered_passed place_cmp (λ t. is_covering c.args.key.now c.args.dot (holding t)) (λ t. place_of (holding t)) c.args.held.now i c.item-item.result
          c.loop-item-test.true c.item-item.is (sym c.is_covering.ensures ∙ w.if-is_covering.true))))
      | else-is_covering w ↦
          ap (λ ps. ps.items) w.places-is ∙ (c.loop-item.invariant
          ∙ sym (gathered_skipped place_cmp (λ t. is_covering c.args.key.now c.args.dot (holding t)) (λ t. place_of (holding t)) c.args.held.now i c.item-item.result
          c.loop-item-test.true c.item-item.is (sym c.is_covering.ensures ∙ w.if-is_covering.false)))
    ]
