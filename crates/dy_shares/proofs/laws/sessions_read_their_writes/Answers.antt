use Rattle.dy_shares.proofs.Readings.{read_own, read_written}
use Rattle.dy_shares.proofs.laws.sessions_read_their_writes.Goals as goal

pub returns-clause-own : goal.returns-clause-own
returns-clause-own c = read_own

pub returns-clause-others : goal.returns-clause-others
returns-clause-others c = read_written
