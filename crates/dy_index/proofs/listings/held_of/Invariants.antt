use Rattle.std.proofs.Common.{◌≡◌, [], drop}
use Rattle.dy_index.specs.inside.Listed.{held_in_all}
use Rattle.dy_index.proofs.listings.held_of.Given as goal

abbrev pub invariant-loop-entry : goal.invariant-loop-entry
invariant-loop-entry l =
    held_in_all l.held.items (drop l.entry-index l.entries) ≡ held_in_all [] l.entries
