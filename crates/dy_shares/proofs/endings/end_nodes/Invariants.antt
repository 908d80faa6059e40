use Rattle.std.proofs.Common.{◌≡◌, ◌<◌, ◌++◌, List, map}
use Rattle.std.specs.List.{All}
use Rattle.dy_shares.specs.Shares.{NodePart}
use Rattle.dy_shares.specs.inside.Parts.{AgreesAsNode, CameBack}
use Rattle.dy_shares.proofs.endings.end_nodes.Given as goal

-- those that were taken agreed with the roll, and their seats are marked
abbrev pub invariant-loop-share : goal.invariant-loop-share
invariant-loop-share g l =
    (gone : List NodePart) × (l.initial.shares.items ≡ l.shares.items ++ gone)
    × All (λ p. p.node < g.J.Naming.ring.nodes) gone
    × All (AgreesAsNode l.initial.roll) gone
    × CameBack l.initial.roll (map (λ p. p.node) gone) l.roll

abbrev pub decreases-loop-share : goal.decreases-loop-share
decreases-loop-share g l = goal.left-loop-share g l
