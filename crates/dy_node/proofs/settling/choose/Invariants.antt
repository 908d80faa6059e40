use Rattle.std.proofs.Common.{take}
use Rattle.dy_node.specs.Settling.{AreReleased}
use Rattle.dy_node.proofs.settling.choose.Given as goal

abbrev pub invariant-loop-receipt : goal.invariant-loop-receipt
invariant-loop-receipt g l = AreReleased l.stores.rooms (take l.receipt-index l.receipts)
    l.chosen.items
