use Rattle.std.proofs.Common.{◌≡◌, ◌++◌}
use Rattle.dy_index.proofs.entries.entries_of.Given as goal

abbrev pub invariant-loop-key : goal.invariant-loop-key
invariant-loop-key l = l.entries.items ++ l.key-iterator ≡ l.keys.entries
