use Rattle.dy_siblings.proofs.Histories.{in_context}
use Rattle.dy_siblings.proofs.laws.contexts_have_what_rows_cover.Goals as goal

pub returns : goal.returns
returns c = in_context
