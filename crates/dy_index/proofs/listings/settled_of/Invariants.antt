use Rattle.std.proofs.Common.{◌≡◌, ◌++◌}
use Rattle.dy_index.specs.inside.Listed.{settled_keys}
use Rattle.dy_index.proofs.listings.settled_of.Given as goal

abbrev pub invariant-loop-key : goal.invariant-loop-key
invariant-loop-key l = l.settled.items ++ settled_keys l.key-iterator ≡ settled_keys l.keys.entries
