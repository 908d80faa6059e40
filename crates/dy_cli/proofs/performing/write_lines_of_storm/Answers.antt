-- what is written of the storm are its lines, and what refuses it is what refuses a run of clients
use Rattle.std.proofs.Common.{refl}
use Rattle.dy_storm.specs.Lines.{storm_lines}
use Rattle.dy_cli.proofs.Halting.{on_ok, storm_only}
use Rattle.dy_cli.proofs.performing.write_lines_of_storm.Goals as goal

pub returns-clause-ok : goal.returns-clause-ok
returns-clause-ok g c =
    on_ok c.write_storm.result c.write_storm.ensures.written
    (λ wrote.
    let storm = wrote.2.1 in (
      storm_lines c.args.plan.steps wrote.0.tokens storm.0.tellings wrote.2.0,
      (wrote.0, wrote.1, (wrote.2.0, (storm.0, refl))),
      storm.1,
    ))

pub returns-clause-only : goal.returns-clause-only
returns-clause-only g c = storm_only c.write_storm.result c.write_storm.ensures.refused
