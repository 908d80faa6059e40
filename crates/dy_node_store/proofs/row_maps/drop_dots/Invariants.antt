use Rattle.std.proofs.Common.{◌≡◌, drop}
use Rattle.dy_node_store.specs.Rows.{without_dots}
use Rattle.dy_node_store.proofs.row_maps.drop_dots.Given as goal

-- the dots to come are still to be dropped
abbrev pub invariant-loop-dot : goal.invariant-loop-dot
invariant-loop-dot l = record {
  key : l.row.key ≡ l.initial.row.key;
  versions : without_dots l.row.versions (drop l.dot-index l.dots) ≡ without_dots l.initial.row.versions l.dots;
}
