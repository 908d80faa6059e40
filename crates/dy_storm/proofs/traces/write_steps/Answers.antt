use Rattle.std.proofs.Common.{◌+◌, arith, sym, subst}
use Rattle.std.proofs.KnownBytes.{Appends-trans}
use Rattle.std.specs.Io.KnownBytes.{Appends}
use Rattle.dy_lines.specs.Sessions.{place_by}
use Rattle.dy_storm.specs.Traces.{step_line}
use Rattle.dy_lines.proofs.Numbered.{numbered-all, numbered-next}
use Rattle.dy_storm.proofs.Tracing.{step_line-is}
use Rattle.dy_storm.proofs.traces.write_steps.Goals as goal

-- this turn writes the next step's line
pub loop-index-preserved : goal.loop-index-preserved
loop-index-preserved g c =
    let place = place_by c.args.sessions.now in
    let step = c.index-steps-index.result in
    let index = c.loop-index.index in
    let told = step_line-is place (1 + index) step (index + 1) c.session_at.result (omega arith)
    c.session_at.ensures in
    let next = numbered-next (step_line place) 1 c.args.steps.now index step
    c.loop-index-test.true c.index-steps-index.is in
    subst (Appends _ _) (sym next)
    (Appends-trans _ _ _ _ _ c.loop-index.invariant
    (subst (Appends _ _) told c.in_ok-writeln.ensures.bytes))

-- all are written
pub returns : goal.returns
returns g c =
    subst (Appends _ _)
    (numbered-all (step_line (place_by c.args.sessions.now)) 1 c.args.steps.now _ c.loop-index-test.false)
    c.loop-index.invariant
