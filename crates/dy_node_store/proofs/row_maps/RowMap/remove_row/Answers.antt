use Rattle.std.proofs.Common.{None, refl, sym, ap, ◌∙◌}
use Rattle.std.specs.FinMap as maps
use Rattle.dy_node_store.proofs.Hashed.{found, removed}
use Rattle.dy_node_store.proofs.RowLemmas.{AreRows-changed}
use Rattle.dy_node_store.proofs.row_maps.RowMap.remove_row.Goals as goal

-- rows stay rows where an entry goes
pub invariant_of-self : goal.invariant_of-self
invariant_of-self c = AreRows-changed _ _ _ None c.self.invariant tt c.remove.ensures.updates.0

pub returns-clause-value : goal.returns-clause-value
returns-clause-value c = sym (found _ _ _ _ _ c.self.view_is refl c.remove.ensures.value)

pub returns-clause-rows : goal.returns-clause-rows
returns-clause-rows c =
    removed _ _ c.args.key.now c.remove.ensures.updates.0 ∙ ap (λ rows. maps.remove rows c.args.key.now) c.self.view_is
