use Rattle.dy_siblings.proofs.Merges.{values_ignored}
use Rattle.dy_siblings.proofs.laws.merging_ignores_values.Goals as goal

pub returns : goal.returns
returns c = values_ignored
