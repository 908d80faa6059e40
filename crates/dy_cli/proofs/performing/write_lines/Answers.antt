-- each job is refused as what it does
use Rattle.std.proofs.Common.{subst, sym}
use Rattle.dy_cli.specs.Refusals.{IsCause, IsHaltedFor, Stops}
use Rattle.dy_jobs.specs.declared.jobs.Job.{Job}
use Rattle.dy_cli.proofs.performing.write_lines.Goals as goal

pub returns-in-Run-clause-refused : goal.returns-in-Run-clause-refused
returns-in-Run-clause-refused g c f stops =
    c.write_lines_of_run.ensures.refused f
    (subst (λ (job : Job). Stops job c.args.bytes.now f) c.in-Run.is stops)

pub returns-in-Serve-clause-refused : goal.returns-in-Serve-clause-refused
returns-in-Serve-clause-refused g c f stops =
    c.write_lines_of_service.ensures.refused f
    (subst (λ (job : Job). Stops job c.args.bytes.now f) c.in-Serve.is stops)

pub returns-in-Serve-clause-only : goal.returns-in-Serve-clause-only
returns-in-Serve-clause-only g c =
    let given = g.L.Read.remaining c.args.lines.now in
    let contents = g.W.Write.contents in
    subst (λ (job : Job). IsHaltedFor (IsCause job given c.args.bytes.now
    (contents c.args.out.now) (contents c.write_lines_of_service.new.out))
    c.write_lines_of_service.result)
    (sym c.in-Serve.is) c.write_lines_of_service.ensures.only

pub returns-in-Ring-clause-refused : goal.returns-in-Ring-clause-refused
returns-in-Ring-clause-refused g c f stops =
    c.write_lines_of_ring.ensures.refused f
    (subst (λ (job : Job). Stops job c.args.bytes.now f) c.in-Ring.is stops)
