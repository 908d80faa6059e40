use Rattle.std.proofs.Common.{◌≤◌, take}
use Rattle.dy_node.specs.inside.Chosen.{AreCounted}
use Rattle.dy_node.proofs.settling.count_standing.Given as goal

abbrev pub invariant-loop-at : goal.invariant-loop-at
invariant-loop-at g l = record {
  few : l.count ≤ l.at;
  counted : AreCounted l.stores.rooms (take l.at l.receipts) l.count;
}
