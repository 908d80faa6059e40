use Rattle.std.proofs.Common.{◌≡◌, ℕ, ◌<◌, get_or}
use Rattle.dy_shares.specs.Shares.{ReceiptParts}
use Rattle.dy_coord.proofs.get_done.are_of_key.Given as goal

-- those before are
abbrev pub invariant-loop-receipt : goal.invariant-loop-receipt
invariant-loop-receipt g l = (k : ℕ) (d : ReceiptParts) → k < l.receipt-index →
    (get_or l.receipts k d).key ≡ l.key
