use Rattle.std.proofs.Common.{take}
use Rattle.std.specs.Io.KnownBytes.{Appends}
use Rattle.std.specs.List.{flat_map}
use Rattle.dy_plans.specs.AuditLines.{settled_line}
use Rattle.dy_plans.proofs.audits.write_settled.Given as goal

-- the lines so far are written
abbrev pub invariant-loop-key : goal.invariant-loop-key
invariant-loop-key g l =
    Appends (g.O.Write.contents l.initial.out) (g.O.Write.contents l.out)
    (flat_map settled_line (take l.key-index l.keys))
