use Rattle.dy_core.proofs.OverLogs.{acks_covered}
use Rattle.dy_core.proofs.laws.acks_stay_covered.Goals as goal

pub returns : goal.returns
returns c = acks_covered
