use Rattle.std.proofs.Common.{sym, subst}
use Rattle.std.proofs.KnownBytes.{Appends-trans}
use Rattle.std.specs.Io.KnownBytes.{Appends}
use Rattle.dy_plans.specs.AuditLines.{acked_line}
use Rattle.dy_plans.proofs.AuditLines.{acked_line-is, flat_map-next}
use Rattle.dy_plans.proofs.audits.write_acked.Goals as goal

-- this turn writes the next ack's line
pub loop-ack-preserved : goal.loop-ack-preserved
loop-ack-preserved g c =
    let ack = c.ack-item.result in
    let of = c.of-line.ensures in
    let told = acked_line-is c.args.w ack _ _ _ _ of.key of.dot of.own_w of.places in
    let next = flat_map-next (acked_line c.args.w) c.args.acked.now _ ack
    c.loop-ack-test.true c.ack-item.is in
    subst (Appends _ _) (sym next)
    (Appends-trans _ _ _ _ _ c.loop-ack.invariant
    (subst (Appends _ _) told c.in_ok-write_whole.ensures.bytes))
