-- the script that was read is the one whose cluster served, or that was refused
use Rattle.dy_script.specs.Reading.{script_parts}
use Rattle.dy_cli.specs.Refusals.{HasServiceFault, RefusesCluster}
use Rattle.dy_cli.proofs.Halting.{cluster_halts, on_ok, service_only, unread_halts, unread_only}
use Rattle.dy_cli.proofs.performing.write_lines_of_service.Goals as goal

pub returns-in-Ok-clause-ok : goal.returns-in-Ok-clause-ok
returns-in-Ok-clause-ok g c =
    on_ok c.serve.result c.serve.ensures.served
    (λ served. (
      served.1,
      (
        script_parts c.in-Ok.script,
        c.in-Ok.ensures.ok,
        (served.0, served.3, served.2),
      ),
      served.4,
    ))

pub returns-in-Ok-clause-refused : goal.returns-in-Ok-clause-refused
returns-in-Ok-clause-refused g c =
    let stopped = c.serve.ensures.refused in
    cluster_halts _ (script_parts c.in-Ok.script) c.serve.result _ _ c.in-Ok.ensures.ok
    stopped.0 stopped.1 stopped.2

pub returns-in-Ok-clause-only : goal.returns-in-Ok-clause-only
returns-in-Ok-clause-only g c =
    let stopped = c.serve.ensures.refused in
    service_only _ _ _ _ _ (script_parts c.in-Ok.script) c.serve.result c.in-Ok.ensures.ok
    stopped.0 stopped.1 stopped.3

pub returns-clause-refused : goal.returns-clause-refused
returns-clause-refused g c =
    unread_halts RefusesCluster _ c.in-Err.fault _ c.in-Err.ensures.err

pub returns-clause-only : goal.returns-clause-only
returns-clause-only g c =
    unread_only (HasServiceFault _ _ _ _) _ c.in-Err.fault c.in-Err.ensures.err
