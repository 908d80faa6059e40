use Rattle.std.proofs.Common.{take}
use Rattle.std.specs.Io.KnownBytes.{Appends}
use Rattle.std.specs.List.{enumerate_from, flat_map}
use Rattle.dy_lines.specs.Sessions.{place_by}
use Rattle.dy_storm.specs.Traces.{step_line}
use Rattle.dy_storm.proofs.traces.write_steps.Given as goal

-- the lines of the steps so far are written
abbrev pub invariant-loop-index : goal.invariant-loop-index
invariant-loop-index g l =
    Appends (g.O.Write.contents l.initial.out) (g.O.Write.contents l.out)
    (flat_map (step_line (place_by l.sessions)) (take l.index (enumerate_from 1 l.steps)))
