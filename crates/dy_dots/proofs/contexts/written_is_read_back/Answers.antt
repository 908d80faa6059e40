use Rattle.dy_dots.proofs.Readings.{read_as}
use Rattle.dy_dots.proofs.contexts.written_is_read_back.Goals as goal

pub returns : goal.returns
returns c = read_as
