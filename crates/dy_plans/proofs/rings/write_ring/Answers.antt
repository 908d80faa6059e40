-- The ring's own refusal is the only one.
use Rattle.std.proofs.Common.{refl}
use Rattle.std.specs.Prelude.{Ok, Err}
use Rattle.dy_plans.proofs.Refusing.{ring_passes, ring_stops}
use Rattle.dy_plans.proofs.rings.write_ring.Goals as goal

pub returns-in-Err-clause-refused : goal.returns-in-Err-clause-refused
returns-in-Err-clause-refused g c =
    (Err c.in-Err.fault, c.in-Err.ensures, ring_stops c.in-Err.fault, refl)

pub returns-in-Ok-write_lines-clause-refused : goal.returns-in-Ok-write_lines-clause-refused
returns-in-Ok-write_lines-clause-refused g c = (
  Ok c.in-Ok.ring,
  c.in-Ok.ensures,
  ring_passes c.in-Ok.ring (Ok tt) refl,
  tt,
)
