use Rattle.dy_core.specs.Logs.{world_after}
use Rattle.dy_core.proofs.OverLogs.{log_sound, own_stays}
use Rattle.dy_core.proofs.Receipts.{step_keeps_place}
use Rattle.dy_core.proofs.laws.covers_last.Goals as goal

pub returns-clause-place : goal.returns-clause-place
returns-clause-place c = λ layout steps legal step allowed key d home holder covers elsewhere.
    step_keeps_place layout (world_after steps) (log_sound layout steps legal) key d home holder step allowed elsewhere covers

pub returns-clause-own : goal.returns-clause-own
returns-clause-own c = own_stays
