use Rattle.std.proofs.Common.{rules, sym, subst, arith}
use mathlib.Core.Logic.{dite}
use native.Mathlib.Decide.{ℕ_discrete}
use Rattle.dy_shares.specs.Shares.{HasNode}
use Rattle.dy_shares.proofs.endings.lacks_node.Goals as goal

-- this one was found just now, and those before it earlier
pub loop-node-preserved : goal.loop-node-preserved
loop-node-preserved g c = λ k low. dite (ℕ_discrete k c.loop-node.node)
    (λ is. subst (λ i. HasNode i c.args.shares.now) (sym is) (c.has_node.ensures.0 (search rules)))
    (λ apart. c.loop-node.invariant k (omega arith))
