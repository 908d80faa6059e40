use Rattle.std.proofs.Common.{◌≡◌, ◌≤◌, true, length}
use Rattle.dy_node.specs.Nodes.{IsDelivered}
use Rattle.dy_node.proofs.nodes.Node.deliver.Given as goal

abbrev pub invariant-loop-number : goal.invariant-loop-number
invariant-loop-number g l = record {
  few : l._number ≤ l.count;
  all : l.count ≡ length l.initial.self.waiting;
  up : l.initial.self.is_up ≡ true;
  done : IsDelivered l.initial.book l.initial.self l._number l.book l.self;
}
