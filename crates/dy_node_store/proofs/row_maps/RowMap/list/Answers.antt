use Rattle.std.proofs.Common.{ap, ◌∙◌, subst}
use Rattle.std.specs.List.{All}
use Rattle.std.specs.FinMap as maps
use Rattle.dy_node_store.specs.Rows.{IsKeptRow}
use Rattle.dy_node_store.proofs.Ordered.{kept_in_order, values_in_order}
use Rattle.dy_node_store.proofs.row_maps.RowMap.list.Goals as goal

-- the rows of the entries, in order, are the map's values
pub returns-clause-value : goal.returns-clause-value
returns-clause-value c =
    values_in_order _ _ _ c.self.invariant c.rows_of.ensures.unique c.in_ok-rows.ensures.rows
    c.sort.ensures.moved c.sort.ensures.sorted
    ∙ ap maps.values c.self.view_is

-- each of them is kept of its key
pub returns-clause-kept : goal.returns-clause-kept
returns-clause-kept c =
    subst (λ m. All (λ row. IsKeptRow m row.now) c.sort.new.rows.items) c.self.view_is
    (kept_in_order _ _ _ c.self.invariant c.rows_of.ensures.unique c.in_ok-rows.ensures.rows
    c.sort.ensures.moved)
