-- one more command is done, and its line written, behind those before it
use Rattle.std.proofs.Common.{◌≡◌, ◌+◌, ◌<◌, ◌++◌, ◌∙◌, List, ap, length, slice_index_or, subst}
use Rattle.std.proofs.KnownBytes.{Appends-trans}
use Rattle.dy_cluster.specs.Settings.{setting}
use Rattle.dy_script.specs.declared.commands.Command.{Command}
use Rattle.dy_serve.specs.Below.{standing}
use Rattle.dy_serve.proofs.Asking.{script_next}
use Rattle.dy_serve.proofs.services.run_script.Goals as goal

pub loop-command-preserved : goal.loop-command-preserved
loop-command-preserved g c =
    let so_far = c.loop-command.invariant.so_far in
    let command = c.command-item.result in
    let index = c.loop-command.command-index in
    let items = c.args.script.now.run.items in
    let same = c.as_slice-command-items.ensures.value in
    let within = subst (λ (cs : List Command). index < length cs) same c.loop-command-test.true in
    let here = subst (λ (cs : List Command). command ≡ slice_index_or cs index command) same
    c.command-item.is in
    let ends = c.in_ok-answer_command.ensures in
    let number : c.in_ok-count.count ≡ index + 1 =
    c.in_ok-count.ensures.number ∙ ap (λ n. n + 1) c.loop-command.invariant.count in
    record {
      together = ends.together;
      cluster = ends.cluster ∙ c.loop-command.invariant.cluster;
      terms = ends.terms ∙ c.loop-command.invariant.terms;
      count = number;
      so_far = (
        so_far.0 ++ ends.done.0,
        script_next _ _ _ _ items index command c.in_ok-count.count
            (standing c.loop-command.opened.runner.seats c.loop-command.lent.sessions.items
            c.loop-command.opened.mark) _ so_far.0 ends.done.0
            within here so_far.1 number
            (ap (λ cl. setting g.row.J.Denot g.J.Naming.ring g.J.Naming.n g.J.Naming.r cl.options)
            c.loop-command.invariant.cluster)
            (ap (λ t. t.ways) c.loop-command.invariant.terms) ends.done.1,
        Appends-trans _ _ _ so_far.0 ends.done.0 so_far.2 ends.done.2,
      );
    }
