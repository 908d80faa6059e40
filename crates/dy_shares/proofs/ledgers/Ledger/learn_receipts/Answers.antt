use Rattle.std.proofs.Common.{◌∙◌, subst}
use Rattle.std.specs.List.{All}
use Rattle.std.proofs.lemmas.List.{take_all}
use Rattle.dy_shares.specs.Shares.{Account, IsReceipt, steps_of}
use Rattle.dy_shares.proofs.Later.{all_more}
use Rattle.dy_shares.proofs.ledgers.Ledger.learn_receipts.Goals as goal

-- the receipt learnt holds too
pub loop-receipt-preserved : goal.loop-receipt-preserved
loop-receipt-preserved g c =
    let now = c.args.receipts.now in
    let holds = subst (λ (a : Account). IsReceipt (steps_of a.log) c.receipt-item.result)
    c.loop-receipt.invariant.same c.learn_receipt.ensures.holds in
    record {
      same = c.learn_receipt.ensures.log ∙ c.loop-receipt.invariant.same;
      hold = all_more (IsReceipt (steps_of c.args.self.now.log)) now c.loop-receipt.receipt-index
          c.receipt-item.result c.loop-receipt-test.true c.receipt-item.is
          c.loop-receipt.invariant.hold holds;
    }

pub returns-clause-hold : goal.returns-clause-hold
returns-clause-hold g c =
    subst (All (IsReceipt (steps_of c.args.self.now.log)))
    (take_all c.loop-receipt.receipt-index c.args.receipts.now c.loop-receipt-test.false)
    c.loop-receipt.invariant.hold
