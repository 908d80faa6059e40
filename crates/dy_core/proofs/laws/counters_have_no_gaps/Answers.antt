use Rattle.dy_core.proofs.Counters.{counters_used, counters_once}
use Rattle.dy_core.proofs.laws.counters_have_no_gaps.Goals as goal

pub returns-clause-used : goal.returns-clause-used
returns-clause-used c = counters_used

pub returns-clause-once : goal.returns-clause-once
returns-clause-once c = counters_once
