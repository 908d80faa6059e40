-- the command was done, its line is told, and its steps below it
use Rattle.std.proofs.Common.{◌∙◌, ◌++◌, List, ap, refl}
use Rattle.std.proofs.KnownBytes.{Appends-kept, Appends-trans}
use Rattle.dy_shares.specs.Shares.{SessionPart}
use Rattle.dy_script.specs.Orders.{command_parts}
use Rattle.dy_cluster.specs.Settings.{setting}
use Rattle.dy_lines.specs.Outcomes.{command_text}
use Rattle.dy_lines.specs.Texts.{line}
use Rattle.dy_commands.specs.Commands.{seated}
use Rattle.dy_serve.specs.Below.{session_at, told_by}
use Rattle.dy_serve.proofs.Lowering.{done_so}
use Rattle.dy_serve.proofs.answering.answer_command.Goals as goal

pub returns-clause-done : goal.returns-clause-done
returns-clause-done g c =
    let opened = c.args.opened.now in
    let ran = c.run_command-outcome.new.runner in
    let now = c.write_below.new.self in
    let session = c.session_of-session.result in
    let so_far = c.told_so_far-so_far.result in
    let sessions = c.run_command-outcome.new.lent.sessions.items in
    let below = c.in_ok-write_below.ensures.below in
    let told = c.told_so_far-so_far.ensures
    ∙ ap (λ (ts : List SessionPart). told_by (session_at session (seated opened.runner.seats ts)))
    c.as_slice.ensures.value in (
      line (command_text c.args.number c.run_command-outcome.result) ++ below.0,
      done_so (setting g.row.J.Denot g.J.Naming.ring g.J.Naming.n g.J.Naming.r
          c.args.lent.now.cluster.now.options) opened.terms.ways opened.terms.ways
          (command_parts c.args.command.now) c.args.number session c.run_command-outcome.result
          so_far opened.runner.seats ran.seats now.runner.seats c.args.lent.now.sessions.items
          sessions opened.mark opened.mark now.mark below.0 c.session_of-session.ensures told
          c.run_command-outcome.ensures.done c.in_ok-write_below.ensures.seats refl refl below.1,
      Appends-kept _ _ _ _ (Appends-trans _ _ _ _ _ c.in_ok-tell.ensures below.2)
          c.in_ok-flush.ensures.bytes,
    )
