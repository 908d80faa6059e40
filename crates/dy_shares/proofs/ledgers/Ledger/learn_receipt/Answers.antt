use Rattle.std.proofs.Common.{subst}
use Rattle.dy_core.specs.Worlds.{layout_of}
use Rattle.dy_shares.specs.Shares.{IsReceipt, steps_of}
use Rattle.dy_shares.proofs.Later.{receipt_later}
use Rattle.dy_shares.proofs.ledgers.Ledger.learn_receipt.Goals as goal

-- what held at the front holds in each legal log that begins with it
pub returns-clause-holds : goal.returns-clause-holds
returns-clause-holds g c =
    let l = c.self.inside in
    subst (λ a. IsReceipt (steps_of a.log) c.args.receipt.now) c.self.view_is
    (receipt_later (layout_of g.J.Naming.ring g.J.Naming.n) c.front.result.now l.chronicle c.args.receipt.now c.self.invariant.1.legal c.learn.ensures.begins c.front.ensures)
