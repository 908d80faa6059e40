use Rattle.std.proofs.Common.{◌≡◌, ◌+◌, [], vec_len, vec_capacity}
use Rattle.dy_shares.specs.inside.Parts.{IsRollOf}
use Rattle.dy_shares.specs.Shares.{first_parts}
use Rattle.dy_shares.proofs.node_shares.open_nodes.Given as goal

-- the roll has a seat for each node so far, and there is room for the shares of the others
abbrev pub invariant-loop-number : goal.invariant-loop-number
invariant-loop-number g l =
    IsRollOf g.J.Naming.ring.nodes [] l.number l.roll
    × (l.shares.items ≡ first_parts l.number)
    × (vec_len l.shares ≡ vec_len l.initial.shares + l.number)
    × (vec_capacity l.shares ≡ vec_capacity l.initial.shares)
