use Rattle.dy_siblings.proofs.Merges.{idempotent}
use Rattle.dy_siblings.proofs.laws.merging_is_idempotent.Goals as goal

pub returns : goal.returns
returns c = idempotent
