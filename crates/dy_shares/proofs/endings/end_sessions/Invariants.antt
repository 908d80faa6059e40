use Rattle.std.proofs.Common.{◌≡◌, ◌+◌, ◌++◌, List, map}
use Rattle.std.specs.List.{All}
use Rattle.dy_shares.specs.Shares.{SessionPart}
use Rattle.dy_shares.specs.inside.Parts.{AgreesAsSession, CameBack}
use Rattle.dy_shares.proofs.endings.end_sessions.Given as goal

-- those that were taken agreed with the roll and the log, and their seats are marked
abbrev pub invariant-loop-share : goal.invariant-loop-share
invariant-loop-share g l =
    (gone : List SessionPart) × (l.initial.shares.items ≡ l.shares.items ++ gone)
    × (l.chronicle ≡ l.initial.chronicle)
    × All (AgreesAsSession g.J.Naming.ring.nodes g.J.Naming.r l.initial.roll l.initial.chronicle) gone
    × CameBack l.initial.roll (map (λ s. g.J.Naming.ring.nodes + s.session) gone) l.roll

abbrev pub decreases-loop-share : goal.decreases-loop-share
decreases-loop-share g l = goal.left-loop-share g l
