-- One more command is done, and recorded, behind those before it.
use Rattle.std.proofs.Common.{◌≡◌, ◌<◌, ◌+◌, List, length}
use Rattle.std.proofs.Common.{◌∙◌, ap, map, slice_index_or, sym, subst, take}
use Rattle.dy_cluster.specs.Settings.{setting}
use Rattle.dy_lines.specs.declared.outcomes.Outcome.{Outcome}
use Rattle.dy_script.specs.Orders.{command_parts}
use Rattle.dy_script.specs.declared.commands.Command.{Command}
use Rattle.dy_commands.specs.Commands.{none_seated, seated}
use Rattle.dy_runner.specs.Runs.{DoAll, outcomes_in}
use Rattle.dy_runner.specs.declared.recordings.Played.{Played}
use Rattle.dy_runner.proofs.Doing.{done_next, outcomes_next}
use Rattle.dy_runner.proofs.recordings.record_all.Goals as goal

pub loop-command-preserved : goal.loop-command-preserved
loop-command-preserved g c =
    let plays = c.loop-command.plays.items in
    let outcome = c.run_command-outcome.result in
    let after = c.run_command-outcome.new in
    let command = c.command-item.result in
    let index = c.loop-command.command-index in
    let script = c.args.script.now in
    let s = setting g.row.J.Denot g.J.Naming.ring g.J.Naming.n g.J.Naming.r
    c.args.lent.now.cluster.now.options in
    let last = seated after.runner.seats after.lent.sessions.items in
    let same = c.as_slice-command-items.ensures.value in
    let within = subst (λ (cs : List Command). index < length cs) same c.loop-command-test.true in
    let here = subst (λ (cs : List Command). command ≡ slice_index_or cs index command) same
    c.command-item.is in
    let next = done_next s _ script.w script.run.items index (outcomes_in plays) command outcome
    none_seated (seated c.loop-command.runner.seats c.loop-command.lent.sessions.items) last within
    here
    c.loop-command.invariant.so_far (ap (λ cl. setting g.row.J.Denot g.J.Naming.ring g.J.Naming.n
    g.J.Naming.r cl.options) c.loop-command.invariant.cluster)
    c.run_command-outcome.ensures.done in
    let played : Played = record { outcome = outcome; steps = c.steps-steps.result } in
    let recorded = outcomes_next plays c.reserve.new.self.items c.push_reserved.new.self.items
    played c.reserve.ensures.items c.push_reserved.ensures.items in
    record {
      cluster = c.run_command-outcome.ensures.cluster ∙ c.loop-command.invariant.cluster;
      together = c.run_command-outcome.ensures.together;
      so_far = subst (λ (os : List Outcome). DoAll s script.w
          (map command_parts (take (index + 1) script.run.items)) os none_seated last)
          (sym recorded) next.done;
    }
