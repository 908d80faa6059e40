use Rattle.dy_shares.proofs.Readings.{covered_away, written_away}
use Rattle.dy_shares.proofs.laws.the_deleted_is_not_read_again.Goals as goal

pub returns-clause-covered : goal.returns-clause-covered
returns-clause-covered c = covered_away

pub returns-clause-written : goal.returns-clause-written
returns-clause-written c = λ ring n r log legal v made writer writes i t spent is key_is dot_is.
    written_away ring n r log legal writer writes i t spent is v made key_is dot_is
