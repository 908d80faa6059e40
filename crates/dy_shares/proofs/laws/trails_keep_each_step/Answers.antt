use Rattle.dy_shares.proofs.Keeping.{kept_at, kept_many}
use Rattle.dy_shares.proofs.laws.trails_keep_each_step.Goals as goal

pub returns-clause-each : goal.returns-clause-each
returns-clause-each c = λ kept steps all i k at. kept_at kept steps i k all at

pub returns-clause-many : goal.returns-clause-many
returns-clause-many c = λ kept steps all. kept_many kept steps all
