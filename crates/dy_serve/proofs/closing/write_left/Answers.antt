-- what stands behind what was read is written
use Rattle.std.proofs.Common.{◌∙◌, ◌+◌, [], arith, drop}
use Rattle.std.proofs.lemmas.List.{length-drop, take_all}
use Rattle.dy_shares.specs.Shares.{steps_of}
use Rattle.dy_cluster.proofs.Marking.{kept_no_fewer}
use Rattle.dy_lines.specs.StepLines.{step_lines}
use Rattle.dy_serve.specs.inside.Telling.{teller_of}
use Rattle.dy_serve.proofs.Lowering.{left_so}
use Rattle.dy_serve.proofs.closing.write_left.Goals as goal

pub returns-then-trail-steps-clause-written : goal.returns-then-trail-steps-clause-written
returns-then-trail-steps-clause-written g c read had =
    let all = c.kept-trail.ensures.kept (steps_of had.log) had.history in
    absurd (omega (
      arith,
      had.count,
      c.if-trail-steps.true,
      kept_no_fewer c.kept-trail.result.now read had.log had.begins all,
    ))

pub returns-clause-written : goal.returns-clause-written
returns-clause-written g c read had =
    let trail = c.kept-trail.result.now in
    let news = c.in_ok-news.news in
    let made = c.in_ok-news.ensures in
    let told = c.in_ok-told.told in
    let steps_are = made.steps ∙ take_all _ (drop c.args.steps trail)
    (omega (arith, length-drop c.args.steps trail)) in (
      step_lines (teller_of news) [] (news.before + 1) news.steps.now,
      left_so c.args.audit.now read had.log trail news.steps.now news.session c.args.steps news.before
          told news.told had.begins had.history (c.kept-trail.ensures.kept (steps_of had.log) had.history) had.count
          made.before steps_are made.session made.told c.in_ok-told.ensures.acks
          c.in_ok-told.ensures.fetches,
      c.in_ok-write_step_lines.ensures.written,
    )
