use Rattle.std.proofs.Common.{ℕ, List}
use Rattle.dy_core.specs.Orders.{holding_cmp}
use Rattle.dy_core.specs.declared.holdings.Holding.{Holding}
use Rattle.dy_index.specs.Lists.{IsInOrder}
use Rattle.dy_index.specs.inside.Holders.{AreByHolder, held_below}
use Rattle.dy_index.proofs.holders.joined.Given as goal

-- some lists are joined, and the rest begins with the next holder's
abbrev pub invariant-loop-holder : goal.invariant-loop-holder
invariant-loop-holder l = (held : List Holding) → AreByHolder 0 held l.fn.holders.items →
    (n : ℕ) × AreByHolder n held l.holder-iterator.rest.items
    × IsInOrder holding_cmp (held_below n held) l.all.items
