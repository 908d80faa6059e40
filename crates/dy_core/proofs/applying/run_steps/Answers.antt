-- Each turn makes the next of the steps, which is allowed after those before it.
use Rattle.std.proofs.Common.{◌++◌, ◌∷◌, [], List, take, sym, subst, ap, ◌∙◌}
use Rattle.std.proofs.lemmas.List.{take_all, take_more}
use Rattle.dy_core.specs.Worlds.{layout_of}
use Rattle.dy_core.specs.Steps.{IsAllowed}
use Rattle.dy_core.specs.Logs.{Log, world_after, with_step}
use Rattle.dy_core.specs.declared.steps.Step.{Step}
use Rattle.dy_core.proofs.OverLogs.{legal_at}
use Rattle.dy_core.proofs.applying.run_steps.Goals as goal

pub apply_copy-requires : goal.apply_copy-requires
apply_copy-requires c =
    let layout = layout_of c.args.ring c.args.n in
    let i = c.loop-step.step-index in
    let steps = c.args.steps.now in
    subst (λ (log : Log). IsAllowed (layout_of log.ring log.n) (world_after log.steps) c.step-item.result)
    (sym c.loop-step.invariant)
    (legal_at layout steps c.requires.legal i c.step-item.result c.loop-step-test.true c.step-item.is)

-- one step more is made
pub loop-step-preserved : goal.loop-step-preserved
loop-step-preserved c =
    let i = c.loop-step.step-index in
    let steps = c.args.steps.now in
    let world_of : List Step → Log = λ ss. record { ring = c.args.ring; n = c.args.n; steps = ss } in
    c.in-Ok.ensures.log ∙ ap (λ w. with_step w c.step-item.result) c.loop-step.invariant
    ∙ ap world_of (ap (λ s. take i steps ++ s ∷ []) c.step-item.is
    ∙ sym (take_more steps i c.step-item.result c.loop-step-test.true))

-- all are made
pub returns-clause-log : goal.returns-clause-log
returns-clause-log c =
    let world_of : List Step → Log = λ ss. record { ring = c.args.ring; n = c.args.n; steps = ss } in
    c.loop-step.invariant
    ∙ ap world_of (take_all c.loop-step.step-index c.args.steps.now c.loop-step-test.false)
