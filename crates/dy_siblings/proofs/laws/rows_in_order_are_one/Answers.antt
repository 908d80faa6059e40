use Rattle.dy_siblings.proofs.Rising.{same_rising}
use Rattle.dy_siblings.proofs.laws.rows_in_order_are_one.Goals as goal

pub returns : goal.returns
returns c = same_rising
