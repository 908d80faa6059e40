use Rattle.std.proofs.Common.{sym, ap, subst}
use Rattle.std.proofs.lemmas.Result.{IfOk-weaker}
use Rattle.dy_siblings.specs.Siblings.{IsSameRow}
use Rattle.dy_core.specs.Steps.{row_answered}
use Rattle.dy_core.specs.Logs.{world_after}
use Rattle.dy_core.proofs.Performing.{fetch_answers}
use Rattle.dy_core.proofs.applying.answer.Goals as goal

pub returns-in-Fetch-clause-row : goal.returns-in-Fetch-clause-row
returns-in-Fetch-clause-row c =
    IfOk-weaker c.copy_at.result _ _
    (λ row is layout steps versions acked old.
    subst (λ vs. IsSameRow vs (row_answered (world_after steps) c.args.step.now)) (sym (ap (λ r. r.versions) is))
    (fetch_answers layout steps versions c.args.held.now acked old c.args.step.now _ _ c.in-Fetch.is))
    c.copy_at.ensures.ok
