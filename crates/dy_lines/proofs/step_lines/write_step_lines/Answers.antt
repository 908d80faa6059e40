-- a step is written behind those before it
use Rattle.std.proofs.Common.{◌+◌, [], List, ℕ, drop, subst, sym}
use Rattle.std.specs.Io.KnownBytes.{Appends}
use Rattle.dy_lines.specs.StepLines.{step_lines, told_line}
use Rattle.dy_lines.specs.inside.Fetches.{IsFirstBetween}
use Rattle.dy_lines.proofs.StepLines.{Leaves, steps_end, steps_next, steps_none}
use Rattle.dy_lines.proofs.step_lines.write_step_lines.Goals as goal

pub loop-index-preserved : goal.loop-index-preserved
loop-index-preserved g c =
    let contents = g.O.Write.contents in
    let loop = c.loop-index in
    let s = g.A.Audience.sessions c.args.audience.now in
    let ends = c.in_ok-write_step.ensures in
    let step = c.index-steps-index in
    record {
      first = ends.first;
      left = steps_next s loop.fetches.items c.write_step.new.fetches.items
          c.args.steps.now c.args.before loop.index step.result
          (contents c.args.out.now) (contents loop.out) (contents c.write_step.new.out) _
          c.loop-index-test.true step.is loop.invariant.left ends.wrote ends.fetches;
    }

pub loop-index-init : goal.loop-index-init
loop-index-init g c =
    let s = g.A.Audience.sessions c.args.audience.now in
    let now = g.O.Write.contents c.args.out.now in
    let before = c.args.before in
    let steps = c.args.steps.now in
    let none = sym c.new-fetches.ensures.items in
    record {
      first = subst (λ (fs : List ℕ). IsFirstBetween (g.A.Audience.before c.args.audience.now)
          (g.A.Audience.last c.args.audience.now) fs) none tt;
      left = subst (λ (fs : List ℕ). Leaves now now (step_lines s fs (before + 0 + 1)
          (drop 0 steps)) (step_lines s [] (before + 1) steps)) none
          (steps_none s steps before now);
    }

pub returns-clause-written : goal.returns-clause-written
returns-clause-written g c =
    let contents = g.O.Write.contents in
    let loop = c.loop-index in
    let s = g.A.Audience.sessions c.args.audience.now in
    let fetches = loop.fetches.items in
    let told = subst (λ (fs : List ℕ). Appends (contents loop.out)
    (contents c.write_told.new.out) (told_line s fs)) c.as_slice.ensures.value
    c.in_ok-write_told.ensures in
    steps_end s fetches _ c.args.steps.now loop.index (contents c.args.out.now)
    (contents loop.out) (contents c.write_told.new.out) _ c.loop-index-test.false
    loop.invariant.left told
