use Rattle.std.proofs.Common.{take}
use Rattle.dy_core.specs.Worlds.{World}
use Rattle.dy_core.specs.Logs.{world_from}
use Rattle.dy_book.specs.Books.{release_steps}
use Rattle.dy_index.specs.Indexes.{IsIndex}
use Rattle.dy_book.proofs.releases.give_up_all.Given as goal

abbrev pub invariant-loop-receipt : goal.invariant-loop-receipt
invariant-loop-receipt g l =
    (w : World) → IsIndex w l.initial.keys.entries →
    IsIndex (world_from w (release_steps l.holder (take l.receipt-index l.receipts)))
    l.keys.entries
