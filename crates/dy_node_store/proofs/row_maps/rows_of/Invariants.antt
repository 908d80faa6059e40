use Rattle.std.proofs.Common.{◌≡◌, ◌++◌, map}
use Rattle.std.specs.Map.{values_of}
use Rattle.dy_node_store.proofs.row_maps.rows_of.Given as goal

-- the rows listed, with those to come, are all
abbrev pub invariant-loop-row : goal.invariant-loop-row
invariant-loop-row l = map (λ row. row.now) l.rows.items ++ l.row-iterator ≡ values_of l.entries.entries
