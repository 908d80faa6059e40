use Rattle.dy_core.proofs.Ordered.{past_is_known}
use Rattle.dy_core.proofs.OverLogs.{log_sound}
use Rattle.dy_core.proofs.laws.pasts_are_closed.Goals as goal

pub returns : goal.returns
returns c = λ layout steps legal v h d e. past_is_known _ (log_sound layout steps legal).ordered v h d e
