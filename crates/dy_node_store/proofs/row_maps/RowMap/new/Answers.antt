use Rattle.dy_node_store.proofs.RowLemmas.{AreRows-none}
use Rattle.dy_node_store.proofs.row_maps.RowMap.new.Goals as goal

pub invariant_of-result : goal.invariant_of-result
invariant_of-result c = AreRows-none _ c.new.ensures.empty
