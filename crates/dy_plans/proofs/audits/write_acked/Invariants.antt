use Rattle.std.proofs.Common.{take}
use Rattle.std.specs.Io.KnownBytes.{Appends}
use Rattle.std.specs.List.{flat_map}
use Rattle.dy_plans.specs.AuditLines.{acked_line}
use Rattle.dy_plans.proofs.audits.write_acked.Given as goal

-- the lines so far are written
abbrev pub invariant-loop-ack : goal.invariant-loop-ack
invariant-loop-ack g l =
    Appends (g.O.Write.contents l.initial.out) (g.O.Write.contents l.out)
    (flat_map (acked_line l.w) (take l.ack-index l.acked))
