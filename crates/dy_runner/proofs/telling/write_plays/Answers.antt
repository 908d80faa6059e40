-- A command is written behind those before it, with its steps; and the steps that are left behind
-- them all.
use Rattle.std.proofs.lemmas.List.{take_all}
use Rattle.dy_runner.specs.Traces.{sessions_of}
use Rattle.dy_runner.proofs.Tracing.{traces_all, traces_next}
use Rattle.dy_runner.proofs.telling.write_plays.Goals as goal

pub loop-index-preserved : goal.loop-index-preserved
loop-index-preserved g c =
    let contents = g.O.Write.contents in
    let loop = c.loop-index in
    let wrote = c.in_ok-at.ensures in
    let play = c.index-plays-index in
    record {
      within = wrote.within;
      so_far = traces_next (sessions_of c.args.trace.now) c.args.plays.now loop.index loop.at
          c.in_ok-at.at c.args.trace.now.steps.now play.result
          (contents c.args.out.now) (contents loop.out) (contents c.write_play.new.out)
          c.loop-index-test.true play.is wrote.rises wrote.within loop.invariant.so_far wrote.wrote;
    }

pub returns-clause-written : goal.returns-clause-written
returns-clause-written g c =
    let contents = g.O.Write.contents in
    let loop = c.loop-index in
    traces_all (sessions_of c.args.trace.now) c.args.plays.now loop.index loop.at
    c.args.trace.now.steps.now (contents c.args.out.now) (contents loop.out)
    (contents c.write_steps.new.out) (take_all loop.index c.args.plays.now c.loop-index-test.false)
    loop.invariant.within loop.invariant.so_far c.in_ok-write_steps.ensures.written
