use Rattle.std.proofs.Common.{Some, sym, ◌∙◌}
use Rattle.std.specs.FinMap as maps
use Rattle.dy_node_store.proofs.Hashed.{inserted}
use Rattle.dy_node_store.proofs.RowLemmas.{AreRows-changed, with_versions_filled}
use Rattle.dy_node_store.proofs.row_maps.RowMap.put_new.Goals as goal

-- the new row is one of its key
pub invariant_of-self-2 : goal.invariant_of-self-2
invariant_of-self-2 c =
    let same = c.in_ok-key.ensures.value ∙ c.key.ensures in
    AreRows-changed _ _ _ (Some c.args.row) c.self.invariant (sym same, c.requires.filled)
    c.in_ok-insert.ensures.updates.0

pub returns-clause-ok : goal.returns-clause-ok
returns-clause-ok c =
    let same = c.in_ok-key.ensures.value ∙ c.key.ensures in
    inserted _ _ _ _ c.in_ok-insert.ensures.updates.0
    ∙ (λ i. maps.insert (c.self.view_is i) (same i) c.args.row)
    ∙ sym (with_versions_filled _ _ _ c.requires.filled)
