use Rattle.std.proofs.Common.{take}
use Rattle.std.specs.Io.KnownBytes.{Appends}
use Rattle.dy_plans.specs.RingLines.{key_lines}
use Rattle.dy_plans.proofs.rings.write_keys.Given as goal

-- the lines of the keys so far are written
abbrev pub invariant-loop-key : goal.invariant-loop-key
invariant-loop-key g l =
    Appends (g.W.Write.contents l.initial.out) (g.W.Write.contents l.out)
    (key_lines l.ring (take l.key-index l.keys))
