use Rattle.dy_core.proofs.OverLogs.{receipt_stays}
use Rattle.dy_core.proofs.laws.receipts_last.Goals as goal

pub returns : goal.returns
returns c = receipt_stays
