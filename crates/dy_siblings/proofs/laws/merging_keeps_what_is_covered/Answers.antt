use Rattle.dy_siblings.proofs.Merges.{covers_merge, context_merge}
use Rattle.dy_siblings.proofs.laws.merging_keeps_what_is_covered.Goals as goal

pub returns-clause-dots : goal.returns-clause-dots
returns-clause-dots c = covers_merge

pub returns-clause-context : goal.returns-clause-context
returns-clause-context c = context_merge
