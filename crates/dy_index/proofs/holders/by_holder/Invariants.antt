use Rattle.dy_index.specs.inside.Holders.{AreFilled}
use Rattle.dy_index.proofs.holders.by_holder.Given as goal

abbrev pub invariant-loop-holding : goal.invariant-loop-holding
invariant-loop-holding l =
    AreFilled l.fn.held.items l.holding-iterator.rest.items l.holders.items
