use Rattle.dy_siblings.proofs.Merges.{commutes}
use Rattle.dy_siblings.proofs.laws.merging_commutes.Goals as goal

pub returns : goal.returns
returns c = commutes
