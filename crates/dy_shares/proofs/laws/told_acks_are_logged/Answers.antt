use Rattle.dy_shares.proofs.Whole.{told_logged}
use Rattle.dy_shares.proofs.laws.told_acks_are_logged.Goals as goal

pub returns : goal.returns
returns c = told_logged
