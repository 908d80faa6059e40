use Rattle.std.proofs.Common.{take}
use Rattle.std.specs.Io.KnownBytes.{Appends}
use Rattle.std.specs.List.{flat_map}
use Rattle.dy_plans.specs.AuditLines.{held_line}
use Rattle.dy_plans.proofs.audits.write_held.Given as goal

-- the lines so far are written
abbrev pub invariant-loop-holding : goal.invariant-loop-holding
invariant-loop-holding g l =
    Appends (g.O.Write.contents l.initial.out) (g.O.Write.contents l.out)
    (flat_map held_line (take l.holding-index l.held))
