-- what the mark moved behind is written
use Rattle.std.proofs.Common.{◌≡◌, ◌∙◌, ◌+◌, [], Bool, List, true, ap, arith, length, rules}
use Rattle.std.proofs.Common.{subst}
use Rattle.dy_shares.specs.Shares.{SessionPart, steps_of}
use Rattle.dy_commands.specs.Commands.{seated}
use Rattle.dy_lines.specs.StepLines.{step_lines}
use Rattle.dy_serve.specs.Below.{AreBelowIf, AreNew, session_at, standing}
use Rattle.dy_serve.specs.inside.Telling.{teller_of}
use Rattle.dy_serve.proofs.Lowering.{below_so, moved_by}
use Rattle.dy_serve.proofs.served_clusters.ServedCluster.write_below.Goals as goal

pub new-requires : goal.new-requires
new-requires g c =
    record {
      fits = omega (
        arith,
        c.steps-before.ensures,
        c.steps-end.ensures,
        c.steps-end.type_inv,
        moved_by c.args.self.now.mark c.steps_behind.new.mark c.in_ok-steps.steps.items
            c.in_ok-steps.ensures.ok,
        ap length c.as_slice.ensures.value,
      );
    }

pub returns-clause-below : goal.returns-clause-below
returns-clause-below g c =
    let contents = g.O.Write.contents in
    let old = c.args.self.now.mark in
    let now = c.steps_behind.new.mark in
    let seats = c.args.self.now.runner.seats in
    let sessions = seated seats c.args.lent.now.sessions.items in
    let told = subst (λ (ts : List SessionPart). AreNew c.args.so_far
    (session_at c.args.number (seated seats ts)) c.in_ok-told.told) c.as_slice-sessions.ensures.value
    c.in_ok-told.ensures.ok in
    let wanted : true ≡ c.args.self.now.terms.ways.with_steps = search rules in
    let news = c.in_ok-news.news in
    let made = c.in_ok-news.ensures in (
      step_lines (teller_of news) [] (news.before + 1) news.steps.now,
      subst (λ (b : Bool). AreBelowIf b c.args.so_far (steps_of old) c.args.number
          (standing seats c.args.lent.now.sessions.items now)
          (step_lines (teller_of news) [] (news.before + 1) news.steps.now)) wanted
          (below_so c.args.so_far c.args.number news.session c.steps-before.result news.before
          sessions old now c.in_ok-told.told news.told c.in_ok-steps.steps.items news.steps.now
          told c.in_ok-steps.ensures.ok c.steps-before.ensures made.before
          (made.steps ∙ c.as_slice.ensures.value) made.session made.told),
      c.in_ok-write_step_lines.ensures.written,
    )
