use Rattle.std.proofs.Common.{ap, ◌∙◌}
use Rattle.std.proofs.lemmas.Result.{IfOk-weaker}
use Rattle.dy_siblings.specs.Siblings.{context_of}
use Rattle.dy_siblings.proofs.Histories.{histories_are}
use Rattle.dy_siblings.proofs.rows.Row.context.Goals as goal

pub returns-clause-ok : goal.returns-clause-ok
returns-clause-ok c =
    IfOk-weaker c.context_of.result _ _
    (λ x is. is ∙ histories_are c.as_slice.result.now ∙ ap context_of c.as_slice.ensures ∙ ap (λ s. context_of s.versions) c.self.view_is)
    c.context_of.ensures.ok
