use Rattle.dy_core.specs.Logs.{world_after}
use Rattle.dy_core.proofs.OverLogs.{log_sound}
use Rattle.dy_core.proofs.Following.{hold_covers}
use Rattle.dy_core.proofs.laws.holds_cover.Goals as goal

pub returns : goal.returns
returns c = λ layout steps legal p row allowed v h. hold_covers (world_after steps)
    (log_sound layout steps legal).ordered p.holder p.home row allowed.1 v h
