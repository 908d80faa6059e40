use Rattle.std.proofs.Common.{ap, ◌∙◌, refl}
use Rattle.std.proofs.Output.{has_written_of_eq}
use Rattle.dy_dots.specs.Spelling.{runs_text}
use Rattle.dy_dots.proofs.Sets.{runs_are}
use Rattle.dy_dots.proofs.Maximal.{text_is}
use Rattle.dy_dots.proofs.contexts.ContextDisplay.fmt.Goals as goal

pub returns-clause-writes : goal.returns-clause-writes
returns-clause-writes g c plain fine =
    has_written_of_eq _ _ _ _ _ (ap runs_text c.as_slice.ensures ∙ text_is _ _ (runs_are _ _ _ c.self.invariant.apart c.self.view_is refl)) (c.print_runs.ensures plain fine)
