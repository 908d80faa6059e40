use Rattle.std.proofs.Common.{[], sym, subst}
use Rattle.std.specs.Option.{option_copied}
use Rattle.std.proofs.lemmas.List.{take_all}
use Rattle.dy_core.specs.Logs.{world_after}
use Rattle.dy_core.proofs.Runs.{run_low, run_high}
use Rattle.dy_index.specs.inside.Pasts.{IsGathering}
use Rattle.dy_index.proofs.Gathering.{IsGathered, gathers_none, gathers_more, gathers_all, run_known}
use Rattle.dy_index.proofs.pasts.past_named.Goals as goal

pub loop-run-init : goal.loop-run-init
loop-run-init c = λ steps key is known.
    subst (IsGathered (world_after steps).versions key c.args.context.now [])
    (sym c.new-past.ensures) (gathers_none (world_after steps).versions key c.args.context.now)

pub add_run-requires-clause-low : goal.add_run-requires-clause-low
add_run-requires-clause-low c =
    run_low c.runs-runs.result.now c.args.context.now c.runs-runs.ensures.runs c.loop-run.run-index
    c.run-item.result c.loop-run-test.true c.run-item.is
    c.runs-runs.ensures.valid

pub add_run-requires-clause-high : goal.add_run-requires-clause-high
add_run-requires-clause-high c =
    run_high c.runs-runs.result.now c.args.context.now c.runs-runs.ensures.runs c.loop-run.run-index
    c.run-item.result c.loop-run-test.true c.run-item.is
    c.runs-runs.ensures.valid

pub loop-run-preserved : goal.loop-run-preserved
loop-run-preserved c = λ steps key is known.
    let vs = (world_after steps).versions in
    let before = c.loop-run.invariant steps key is known in
    let gathering : IsGathering steps key (option_copied c.args.part) c.loop-run.past =
    record { known = is; closed = before.closed } in
    let issued = run_known vs key c.runs-runs.result.now c.args.context.now c.runs-runs.ensures.runs
    c.loop-run.run-index c.run-item.result c.loop-run-test.true c.run-item.is known in
    gathers_more vs key c.args.context.now c.runs-runs.result.now c.runs-runs.ensures.runs
    c.loop-run.run-index c.run-item.result c.loop-run-test.true c.run-item.is c.loop-run.past
    c.add_run.new.past before (c.in_ok-add_run.ensures.grows steps key gathering issued)
    (c.in_ok-add_run.ensures.inside steps key gathering issued)

pub returns-clause-ok : goal.returns-clause-ok
returns-clause-ok c = λ steps key is known.
    let vs = (world_after steps).versions in
    gathers_all vs key c.args.context.now c.runs-runs.result.now c.runs-runs.ensures.runs
    c.loop-run.past
    (subst (λ rs. IsGathered vs key c.args.context.now rs c.loop-run.past)
    (take_all c.loop-run.run-index c.runs-runs.result.now c.loop-run-test.false)
    (c.loop-run.invariant steps key is known))
