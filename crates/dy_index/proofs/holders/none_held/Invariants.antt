use Rattle.std.proofs.Common.{◌≡◌, ℕ, ◌-◌, ◌≤◌, [], length}
use Rattle.dy_dots.specs.declared.nodes.TheConstants.{MAX_NODES}
use Rattle.dy_index.specs.inside.Holders.{list_of}
use Rattle.dy_index.proofs.holders.none_held.Given as goal

abbrev pub invariant-loop-alloc : goal.invariant-loop-alloc
invariant-loop-alloc l =
    (length l.holders.items ≤ MAX_NODES) × ((n : ℕ) → list_of l.holders.items n ≡ [])

abbrev pub decreases-loop-alloc : goal.decreases-loop-alloc
decreases-loop-alloc l = MAX_NODES - length l.holders.items
