use Rattle.std.proofs.Common.{ap, ◌∙◌}
use Rattle.std.proofs.lemmas.Result.{IfOk-weaker}
use Rattle.dy_siblings.specs.Siblings.{own_dots}
use Rattle.dy_siblings.proofs.Histories.{dots_are}
use Rattle.dy_siblings.proofs.rows.Row.dots.Goals as goal

pub returns-clause-ok : goal.returns-clause-ok
returns-clause-ok c =
    IfOk-weaker c.own_dots.result _ _
    (λ x is. is ∙ dots_are c.as_slice.result.now ∙ ap own_dots c.as_slice.ensures ∙ ap (λ s. own_dots s.versions) c.self.view_is)
    c.own_dots.ensures.ok
