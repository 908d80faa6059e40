use Rattle.std.proofs.Common.{◌≡◌, take}
use Rattle.dy_node.specs.Settling.{without_all}
use Rattle.dy_node.proofs.settling.drop_all.Given as goal

abbrev pub invariant-loop-receipt : goal.invariant-loop-receipt
invariant-loop-receipt g l = record {
  rooms : l.stores.rooms ≡ without_all l.initial.stores.rooms (take l.receipt-index l.receipts);
  counters : l.stores.counters ≡ l.initial.stores.counters;
}
