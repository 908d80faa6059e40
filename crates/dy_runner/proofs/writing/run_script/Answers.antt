-- the cluster is not opened, or the run failed
use Rattle.std.specs.Prelude.{◌⊎◌}
use Rattle.dy_cluster.specs.Refusals.{IsOpenRefusal}
use Rattle.dy_plans.specs.Refusals.{HasFailed}
use Rattle.dy_plans.proofs.Refusing.{ends_for}
use Rattle.dy_runner.proofs.Failing.{open_or_failed}
use Rattle.dy_runner.proofs.writing.run_script.Goals as goal

pub returns-in_err-ended-clause-only : goal.returns-in_err-ended-clause-only
returns-in_err-ended-clause-only g c =
    let options = c.args.options in
    let nodes = c.args.ring.nodes in
    let f = c.in_err-ended.field-0.0 in
    ends_for c.from_residual.result f (λ x. IsOpenRefusal options nodes x ⊎ HasFailed x)
    c.from_residual.ensures.1 (open_or_failed options nodes f c.in_err-ended.ensures.only)
