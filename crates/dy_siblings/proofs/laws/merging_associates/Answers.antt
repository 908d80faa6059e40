use Rattle.dy_siblings.proofs.Merges.{associates}
use Rattle.dy_siblings.proofs.laws.merging_associates.Goals as goal

pub returns : goal.returns
returns c = associates
