-- One more command is done, and its line written, behind those before it.
use Rattle.std.proofs.Common.{◌≡◌, ◌∙◌, ◌<◌, ◌++◌, ◌∷◌, [], List, ap, length, slice_index_or, subst}
use Rattle.dy_cluster.specs.Settings.{setting}
use Rattle.dy_script.specs.declared.commands.Command.{Command}
use Rattle.dy_commands.specs.Commands.{none_seated, seated}
use Rattle.dy_runner.proofs.Doing.{done_next, lines_next}
use Rattle.dy_runner.proofs.running.run_all.Goals as goal

pub loop-index-preserved : goal.loop-index-preserved
loop-index-preserved g c =
    let so_far = c.loop-index.invariant.so_far in
    let outcome = c.run_command-outcome.result in
    let after = c.run_command-outcome.new in
    let contents = g.O.Write.contents in
    let command = c.command-item.result in
    let index = c.loop-index.index in
    let script = c.args.script.now in
    let same = c.deref-command-items.ensures.value in
    let within = subst (λ (cs : List Command). index < length cs) same c.loop-index-test.true in
    let here = subst (λ (cs : List Command). command ≡ slice_index_or cs index command) same
    c.command-item.is in
    let next = done_next (setting g.row.J.Denot g.J.Naming.ring g.J.Naming.n g.J.Naming.r
    c.args.lent.now.cluster.now.options) _ script.w script.run.items index so_far.0 command outcome
    none_seated (seated c.loop-index.runner.seats c.loop-index.lent.sessions.items)
    (seated after.runner.seats after.lent.sessions.items) within here so_far.1
    (ap (λ cl. setting g.row.J.Denot g.J.Naming.ring g.J.Naming.n g.J.Naming.r cl.options)
    c.loop-index.invariant.cluster) c.run_command-outcome.ensures.done in
    record {
      cluster = c.run_command-outcome.ensures.cluster ∙ c.loop-index.invariant.cluster;
      together = c.run_command-outcome.ensures.together;
      so_far = (
        so_far.0 ++ outcome ∷ [],
        next.done,
        lines_next (contents c.args.out.now) (contents c.loop-index.out)
            (contents c.write_whole.new.out) index so_far.0 outcome next.count so_far.2
            c.in_ok-write_whole.ensures.bytes,
      );
    }
