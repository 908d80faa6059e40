use Rattle.dy_core.specs.Logs.{world_after}
use Rattle.dy_core.proofs.OverLogs.{log_sound}
use Rattle.dy_core.proofs.Receipts.{cover_from_receipts}
use Rattle.dy_core.proofs.laws.receipts_make_a_cover.Goals as goal

pub returns : goal.returns
returns c = λ layout steps legal key d receipts hold homes holders.
    cover_from_receipts layout (world_after steps) (log_sound layout steps legal) key d receipts hold homes holders
