use Rattle.std.proofs.Common.{◌∙◌}
use Rattle.dy_node_store.proofs.row_maps.rows_of.Goals as goal

-- all are to come
pub loop-row-init : goal.loop-row-init
loop-row-init c =
    rw c.in_ok-rows.ensures.items
    (c.into_iter-row-iterator.ensures.into_iter_gives ∙ c.values-row-items.ensures.rest)
