-- the script that was read is the one whose ring is written, or refused
use Rattle.std.proofs.Common.{refl}
use Rattle.dy_script.specs.Reading.{script_parts}
use Rattle.dy_plans.specs.RingLines.{ring_lines}
use Rattle.dy_cli.specs.Refusals.{HasRingFault, RefusesRing}
use Rattle.dy_cli.proofs.Halting.{on_ok, ring_halts, ring_only, unread_halts, unread_only}
use Rattle.dy_cli.proofs.performing.write_lines_of_ring.Goals as goal

pub returns-in-Ok-clause-ok : goal.returns-in-Ok-clause-ok
returns-in-Ok-clause-ok g c =
    let script = script_parts c.in-Ok.script in
    on_ok c.write_ring.result c.write_ring.ensures.written
    (λ wrote. (
      ring_lines wrote.0 script.keys,
      (script, c.in-Ok.ensures.ok, (wrote.0, wrote.1, refl)),
      wrote.2,
    ))

pub returns-in-Ok-clause-refused : goal.returns-in-Ok-clause-refused
returns-in-Ok-clause-refused g c =
    let stopped = c.write_ring.ensures.refused in
    ring_halts _ (script_parts c.in-Ok.script) c.write_ring.result _ _ c.in-Ok.ensures.ok
    stopped.0 stopped.1 stopped.2 stopped.3

pub returns-in-Ok-clause-only : goal.returns-in-Ok-clause-only
returns-in-Ok-clause-only g c =
    let stopped = c.write_ring.ensures.refused in
    ring_only _ (script_parts c.in-Ok.script) c.write_ring.result c.in-Ok.ensures.ok
    stopped.0 stopped.1 stopped.2

pub returns-clause-refused : goal.returns-clause-refused
returns-clause-refused g c =
    unread_halts RefusesRing _ c.in-Err.fault _ c.in-Err.ensures.err

pub returns-clause-only : goal.returns-clause-only
returns-clause-only g c = unread_only HasRingFault _ c.in-Err.fault c.in-Err.ensures.err
