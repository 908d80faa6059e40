use Rattle.std.proofs.Common.{◌++◌, ◌∷◌, [], sym, ap, ◌∙◌, subst, take}
use Rattle.std.proofs.lemmas.List.{take_more}
use Rattle.dy_node.specs.Settling.{AreReleased}
use Rattle.dy_node.proofs.SettleLemmas.{released_more, released_none}
use Rattle.dy_node.proofs.settling.choose.Goals as goal

-- of no receipt none is chosen
pub loop-receipt-init : goal.loop-receipt-init
loop-receipt-init g c = subst (AreReleased c.args.stores.now.rooms [])
    (sym c.new-chosen.ensures.items) (released_none c.args.stores.now.rooms)

-- one receipt more was looked at
pub loop-receipt-preserved : goal.loop-receipt-preserved
loop-receipt-preserved g c =
    let rooms = c.args.stores.now.rooms in
    let xs = c.args.receipts.now in
    let at = c.loop-receipt.receipt-index in
    let x = c.receipt-item.result in
    let grows = take_more xs at x c.loop-receipt-test.true ∙ ap (λ y. take at xs ++ y ∷ [])
    (sym c.receipt-item.is) in
    subst (λ zs. AreReleased rooms zs c.take_in.new.chosen.items) (sym grows)
    (subst (AreReleased rooms (take at xs ++ x ∷ [])) (sym c.in_ok-take_in.ensures.chosen)
    (released_more rooms (take at xs) c.loop-receipt.chosen.items x c.loop-receipt.invariant))
