use Rattle.dy_core.proofs.GetsOfHomes.{settled_get}
use Rattle.dy_core.proofs.laws.settled_gets_cover_acks.Goals as goal

pub returns : goal.returns
returns c = settled_get
