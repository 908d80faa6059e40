use Rattle.std.proofs.Common.{◌≡◌, ◌≤◌, drop, length}
use Rattle.dy_preference.specs.inside.Walks.{met}
use Rattle.dy_preference.proofs.orders.meet.Given as goal

abbrev pub invariant-loop-token : goal.invariant-loop-token
invariant-loop-token l =
    (met l.nodes.items (drop l.token-index l.tokens) ≡ met l.fn.nodes.items l.tokens)
    × (length l.nodes.items ≤ l.count)
