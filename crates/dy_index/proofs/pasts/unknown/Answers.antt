use Rattle.dy_core.specs.Logs.{world_after}
use Rattle.dy_core.proofs.Runs.{run_low, run_high, more_issued, least_is}
use Rattle.dy_index.proofs.pasts.unknown.Goals as goal

pub first_unknown-requires-clause-low : goal.first_unknown-requires-clause-low
first_unknown-requires-clause-low c =
    run_low c.runs-runs.result.now c.args.context.now c.runs-runs.ensures.runs c.loop-run.run-index
    c.run-item.result c.loop-run-test.true c.run-item.is
    c.runs-runs.ensures.valid

pub first_unknown-requires-clause-high : goal.first_unknown-requires-clause-high
first_unknown-requires-clause-high c =
    run_high c.runs-runs.result.now c.args.context.now c.runs-runs.ensures.runs c.loop-run.run-index
    c.run-item.result c.loop-run-test.true c.run-item.is
    c.runs-runs.ensures.valid

pub returns-in-Some : goal.returns-in-Some
returns-in-Some c = λ steps key is.
    least_is c.runs-runs.result.now c.args.context.now c.runs-runs.ensures.runs c.loop-run.run-index
    c.run-item.result c.loop-run-test.true c.run-item.is
    (world_after steps).versions key (c.loop-run.invariant steps key is) c.in-Some.dot
    (c.in-Some.ensures steps key is)

pub loop-run-preserved : goal.loop-run-preserved
loop-run-preserved c = λ steps key is.
    more_issued c.runs-runs.result.now c.args.context.now c.runs-runs.ensures.runs
    c.loop-run.run-index c.run-item.result c.loop-run-test.true c.run-item.is
    (world_after steps).versions key (c.loop-run.invariant steps key is)
    (c.in-None.ensures steps key is)
