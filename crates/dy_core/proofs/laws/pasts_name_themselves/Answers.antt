use Rattle.dy_core.specs.Logs.{world_after}
use Rattle.dy_core.proofs.OverLogs.{log_sound}
use Rattle.dy_core.proofs.Following.{past_issued, past_again}
use Rattle.dy_core.proofs.laws.pasts_name_themselves.Goals as goal

pub returns-clause-known : goal.returns-clause-known
returns-clause-known c =
    λ layout steps legal key context. past_issued (world_after steps).versions
    (log_sound layout steps legal).ordered key context

pub returns-clause-same : goal.returns-clause-same
returns-clause-same c =
    λ layout steps legal key context. past_again (world_after steps).versions
    (log_sound layout steps legal).ordered key context
