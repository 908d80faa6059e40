use Rattle.std.proofs.Common.{ℕ, ◌<◌}
use Rattle.dy_shares.specs.Shares.{HasNode}
use Rattle.dy_shares.proofs.endings.lacks_node.Given as goal

-- each one before has its share
abbrev pub invariant-loop-node : goal.invariant-loop-node
invariant-loop-node g l = (k : ℕ) → k < l.node → HasNode k l.fn.shares
