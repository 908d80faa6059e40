use Rattle.dy_core.specs.Logs.{world_after}
use Rattle.dy_core.proofs.OverLogs.{log_sound}
use Rattle.dy_core.proofs.Following.{issue_elsewhere}
use Rattle.dy_core.proofs.laws.issues_hold_nothing.Goals as goal

pub returns : goal.returns
returns c = λ layout steps legal node key context value p o k. issue_elsewhere layout
    (world_after steps) (log_sound layout steps legal) node key context value p o k
