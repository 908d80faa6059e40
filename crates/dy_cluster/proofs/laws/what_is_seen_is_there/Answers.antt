use Rattle.dy_cluster.proofs.Guarantees.{seen_is_there}
use Rattle.dy_cluster.proofs.laws.what_is_seen_is_there.Goals as goal

pub returns : goal.returns
returns g c = seen_is_there
