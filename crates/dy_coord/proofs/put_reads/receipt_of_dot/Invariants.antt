use Rattle.std.proofs.Common.{◌≡◌, length}
use Rattle.dy_coord.specs.inside.PutReads.{last_of}
use Rattle.dy_coord.proofs.put_reads.receipt_of_dot.Given as goal

abbrev pub decreases-loop-receipt : goal.decreases-loop-receipt
decreases-loop-receipt g l = length l.receipts.items

abbrev pub invariant-loop-receipt : goal.invariant-loop-receipt
invariant-loop-receipt g l =
    last_of l.dot l.fn.receipts.items ≡ last_of l.dot l.receipts.items
