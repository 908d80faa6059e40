-- the script that was read is the one that ran, or that was refused
use Rattle.dy_script.specs.Reading.{script_parts}
use Rattle.dy_cli.specs.Refusals.{HasClusterFault, RefusesCluster}
use Rattle.dy_cli.proofs.Halting.{cluster_halts, cluster_only, on_ok, unread_halts, unread_only}
use Rattle.dy_cli.proofs.performing.write_lines_of_run.Goals as goal

pub returns-in-Ok-clause-ok : goal.returns-in-Ok-clause-ok
returns-in-Ok-clause-ok g c =
    on_ok c.write_run.result c.write_run.ensures.run
    (λ wrote. (wrote.0, (script_parts c.in-Ok.script, c.in-Ok.ensures.ok, wrote.1), wrote.2))

pub returns-in-Ok-clause-refused : goal.returns-in-Ok-clause-refused
returns-in-Ok-clause-refused g c =
    let stopped = c.write_run.ensures.refused in
    cluster_halts _ (script_parts c.in-Ok.script) c.write_run.result _ _ c.in-Ok.ensures.ok
    stopped.0 stopped.1 stopped.2

pub returns-in-Ok-clause-only : goal.returns-in-Ok-clause-only
returns-in-Ok-clause-only g c =
    let stopped = c.write_run.ensures.refused in
    cluster_only _ (script_parts c.in-Ok.script) c.write_run.result c.in-Ok.ensures.ok
    stopped.0 stopped.1 stopped.3

pub returns-clause-refused : goal.returns-clause-refused
returns-clause-refused g c =
    unread_halts RefusesCluster _ c.in-Err.fault _ c.in-Err.ensures.err

pub returns-clause-only : goal.returns-clause-only
returns-clause-only g c = unread_only HasClusterFault _ c.in-Err.fault c.in-Err.ensures.err
