-- Each turn makes the next step of the history, which is allowed after those before it.
use Rattle.std.proofs.Common.{◌++◌, ◌∷◌, [], List, take, sym, subst, ap, ◌∙◌, arith}
use Rattle.std.proofs.lemmas.List.{take_all, take_more}
use Rattle.dy_core.specs.Worlds.{layout_of}
use Rattle.dy_core.specs.Steps.{IsAllowed}
use Rattle.dy_core.specs.Logs.{Log, world_after, with_step}
use Rattle.dy_core.specs.declared.steps.Step.{Step}
use Rattle.dy_core.proofs.OverLogs.{legal_at}
use Rattle.dy_replay.proofs.Reading.{read_next}
use Rattle.dy_replay.proofs.playing.play.Goals as goal

pub step-requires : goal.step-requires
step-requires c =
    let steps = c.requires.legal.0 in
    let is = c.requires.legal.1 in
    let len = c.len-at-end.ensures steps is in
    let less = c.loop-at-test.true in
    record {
      from_one = omega arith;
      within = (steps, is, omega (arith, len, less));
    }

pub apply-requires : goal.apply-requires
apply-requires c =
    let at = c.loop-at.at in
    let steps = c.requires.legal.0 in
    let is = c.requires.legal.1 in
    let step = c.in_ok-step.step in
    let len = c.len-at-end.ensures steps is in
    let less = c.loop-at-test.true in
    record {
      allowed =
          subst (λ (log : Log). IsAllowed (layout_of log.ring log.n) (world_after log.steps) step)
          (sym (c.loop-at.invariant steps is))
          (legal_at (layout_of c.args.ring c.args.n) steps c.requires.legal.2 at step
          (omega (arith, len, less)) (read_next steps at step (c.in_ok-step.ensures.ok steps is)));
    }

-- one step more is made
pub loop-at-preserved : goal.loop-at-preserved
loop-at-preserved c = λ steps is.
    let at = c.loop-at.at in
    let step = c.in_ok-step.step in
    let len = c.len-at-end.ensures steps is in
    let less = c.loop-at-test.true in
    let world_of : List Step → Log = λ ss. record { ring = c.args.ring; n = c.args.n; steps = ss } in
    c.in_ok-_row.ensures.log ∙ ap (λ w. with_step w step) (c.loop-at.invariant steps is)
    ∙ ap world_of (ap (λ s. take at steps ++ s ∷ [])
    (read_next steps at step (c.in_ok-step.ensures.ok steps is))
    ∙ sym (take_more steps at step (omega (arith, len, less))))

-- all are made
pub returns-clause-log : goal.returns-clause-log
returns-clause-log c = λ steps is.
    let at = c.loop-at.at in
    let len = c.len-at-end.ensures steps is in
    let done = c.loop-at-test.false in
    let world_of : List Step → Log = λ ss. record { ring = c.args.ring; n = c.args.n; steps = ss } in
    c.loop-at.invariant steps is ∙ ap world_of (take_all at steps (omega (arith, len, done)))
