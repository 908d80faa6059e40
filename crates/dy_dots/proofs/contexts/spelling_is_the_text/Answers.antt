use Rattle.dy_dots.proofs.Maximal.{spelled_by_text}
use Rattle.dy_dots.proofs.contexts.spelling_is_the_text.Goals as goal

pub returns : goal.returns
returns c = spelled_by_text
