use Rattle.std.proofs.Common.{sym, subst}
use Rattle.std.proofs.KnownBytes.{Appends-trans}
use Rattle.std.specs.Io.KnownBytes.{Appends}
use Rattle.dy_plans.specs.AuditLines.{held_line}
use Rattle.dy_plans.proofs.AuditLines.{held_line-is, flat_map-next}
use Rattle.dy_plans.proofs.audits.write_held.Goals as goal

-- this turn writes the next holding's line
pub loop-holding-preserved : goal.loop-holding-preserved
loop-holding-preserved g c =
    let holding = c.holding-item.result in
    let of = c.in_ok-line.ensures in
    let told = held_line-is holding _ _ _ of.holder of.home of.key of.dots in
    let next = flat_map-next held_line c.args.held.now _ holding
    c.loop-holding-test.true c.holding-item.is in
    subst (Appends _ _) (sym next)
    (Appends-trans _ _ _ _ _ c.loop-holding.invariant
    (subst (Appends _ _) told c.in_ok-write_whole.ensures.bytes))
