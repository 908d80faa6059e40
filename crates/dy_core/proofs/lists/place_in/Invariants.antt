use Rattle.std.proofs.Common.{◌≡◌, ◌++◌, take, drop}
use Rattle.dy_core.specs.Orders.{put}
use Rattle.dy_core.proofs.lists.place_in.Given as goal

abbrev pub invariant-loop-other : goal.invariant-loop-other
invariant-loop-other g l =
    (l.at ≡ l.other-index) × (put g.T.Ranked.ranked l.list l.item ≡ take l.at l.list ++ put g.T.Ranked.ranked (drop l.at l.list) l.item)
