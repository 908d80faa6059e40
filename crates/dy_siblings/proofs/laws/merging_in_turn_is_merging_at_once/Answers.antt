use Rattle.dy_siblings.proofs.Merges.{in_turn_by}
use Rattle.dy_siblings.proofs.laws.merging_in_turn_is_merging_at_once.Goals as goal

pub returns : goal.returns
returns c = in_turn_by
