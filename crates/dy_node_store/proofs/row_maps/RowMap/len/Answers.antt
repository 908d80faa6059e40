use Rattle.std.proofs.Common.{length, sym, ap, ◌∙◌}
use Rattle.std.specs.FinMap as maps
use Rattle.dy_node_store.proofs.Hashed.{length_entries}
use Rattle.dy_node_store.proofs.row_maps.RowMap.len.Goals as goal

-- the map has an entry a row
pub returns : goal.returns
returns c = c.len.ensures.len ∙ sym (length_entries _ c.len.ensures.unique)
    ∙ ap (λ m. length (maps.entries m)) c.self.view_is
