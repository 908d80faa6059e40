use Rattle.dy_core.proofs.GetsOfHomes.{homes_show}
use Rattle.dy_core.proofs.laws.homes_show_what_they_took.Goals as goal

pub returns : goal.returns
returns c = homes_show
