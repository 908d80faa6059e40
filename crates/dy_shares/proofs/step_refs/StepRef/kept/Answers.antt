use Rattle.std.proofs.Common.{IfOk, sym, ap, ◌∙◌, subst}
use Rattle.dy_shares.specs.Trails.{Keeps}
use Rattle.dy_shares.specs.inside.Said.{step_said}
use Rattle.dy_shares.proofs.step_refs.StepRef.kept.Goals as goal

-- what is said is the hold of the row that is lent
pub returns-in-Held-clause-ok : goal.returns-in-Held-clause-ok
returns-in-Held-clause-ok c =
    subst (λ step. IfOk c.keep_hold.result (λ kept. Keeps kept step))
    (sym (sym c.self.view_is ∙ ap step_said c.in-Held.is)) c.keep_hold.ensures.ok
