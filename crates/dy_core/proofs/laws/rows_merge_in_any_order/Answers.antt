use Rattle.dy_core.proofs.Merging.{log_merges, log_merges_twice}
use Rattle.dy_core.proofs.laws.rows_merge_in_any_order.Goals as goal

pub returns-clause-at_once : goal.returns-clause-at_once
returns-clause-at_once c = log_merges

pub returns-clause-associative : goal.returns-clause-associative
returns-clause-associative c = log_merges_twice
