use Rattle.dy_replay.proofs.Agreeing.{agrees}
use Rattle.dy_replay.proofs.laws.replays_agree.Goals as goal

pub returns : goal.returns
returns c = agrees
