use Rattle.std.proofs.Common.{List}
use Rattle.dy_shares.specs.Shares.{SessionPart}
use Rattle.dy_lines.specs.Tellings.{AreToldBy, session_lines}
use Rattle.dy_lines.proofs.Telling.{SessionsSoFar}
use Rattle.dy_storm.proofs.traces.write_told.Given as goal

-- of whatever sessions were told so, those from this place on are still to be written
abbrev pub invariant-loop-session : goal.invariant-loop-session
invariant-loop-session g l =
    (tellings : List SessionPart) → AreToldBy 2 l.told tellings
    → SessionsSoFar session_lines 2 l.session l.told tellings
    (g.O.Write.contents l.initial.out) (g.O.Write.contents l.out)
