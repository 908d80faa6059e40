use Rattle.std.proofs.Common.{◌++◌, ◌∷◌, [], sym, ap, ◌∙◌, take}
use Rattle.std.proofs.lemmas.List.{take_more}
use Rattle.dy_node_store.specs.Rows.{without_dots}
use Rattle.dy_node.specs.Stored.{Stored, versions_at, with_row}
use Rattle.dy_node.specs.Settling.{without_all}
use Rattle.dy_node.proofs.SettleLemmas.{without_more}
use Rattle.dy_node.proofs.settling.drop_all.Goals as goal

-- one dot more is gone
pub loop-receipt-preserved : goal.loop-receipt-preserved
loop-receipt-preserved g c =
    let rooms = c.args.stores.now.rooms in
    let xs = c.args.receipts.now in
    let at = c.loop-receipt.receipt-index in
    let x = c.receipt-item.result in
    let before = c.loop-receipt.invariant.rooms in
    let grows = take_more xs at x c.loop-receipt-test.true ∙ ap (λ y. take at xs ++ y ∷ [])
    (sym c.receipt-item.is) in record {
      rooms =
          ap (λ (s : Stored). s.rooms) c.drop_dot.ensures
          ∙ (λ i. with_row (before i) (c.home.ensures i) (c.key.ensures i)
          (without_dots (versions_at (before i) (c.home.ensures i) (c.key.ensures i))
          (c.dot.ensures i ∷ [])))
          ∙ sym (without_more rooms (take at xs) x)
          ∙ ap (without_all rooms) (sym grows);
      counters = ap (λ (s : Stored). s.counters) c.drop_dot.ensures
          ∙ c.loop-receipt.invariant.counters;
    }
