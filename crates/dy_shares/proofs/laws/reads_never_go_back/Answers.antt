use Rattle.dy_shares.proofs.Readings.{own_again, read_again}
use Rattle.dy_shares.proofs.laws.reads_never_go_back.Goals as goal

pub returns-clause-own : goal.returns-clause-own
returns-clause-own c = own_again

pub returns-clause-others : goal.returns-clause-others
returns-clause-others c = read_again
