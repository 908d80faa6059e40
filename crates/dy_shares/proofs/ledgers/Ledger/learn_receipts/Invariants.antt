use Rattle.std.proofs.Common.{◌≡◌, take}
use Rattle.std.specs.List.{All}
use Rattle.dy_shares.specs.Shares.{IsReceipt, steps_of}
use Rattle.dy_shares.proofs.ledgers.Ledger.learn_receipts.Given as goal

abbrev pub invariant-loop-receipt : goal.invariant-loop-receipt
invariant-loop-receipt g l = record {
  same : l.self ≡ l.initial.self;
  hold : All (IsReceipt (steps_of l.initial.self.log)) (take l.receipt-index l.receipts);
}
