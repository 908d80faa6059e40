-- the line is told where it could be written
use Rattle.std.proofs.Common.{◌∙◌, sym}
use Rattle.dy_cli.proofs.Halting.{of_ok}
use Rattle.dy_cli.proofs.refusing.refuse_stopped.Goals as goal

pub returns-clause-told : goal.returns-clause-told
returns-clause-told g c text is told =
    of_ok c.tell_stopped.result (c.tell_stopped.ensures text is)
    (sym c.is_ok-told.ensures.value ∙ told)
