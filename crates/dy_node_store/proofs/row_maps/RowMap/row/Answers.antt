use Rattle.std.proofs.Common.{refl, sym, IfSome, Bor, Option, None, Some}
use Rattle.std.specs.Option.{option_copied}
use Rattle.dy_node_store.specs.Rows.{IsRowOf}
use Rattle.dy_node_store.proofs.Hashed.{found}
use Rattle.dy_node_store.proofs.row_maps.RowMap.row.Goals as goal

-- a look-up among the entries is the map's
pub returns-clause-value : goal.returns-clause-value
returns-clause-value c = sym (found _ _ _ _ _ c.self.view_is refl c.get.ensures.value)

-- what holds of the value that is shown holds behind the reference
shown : {X : Type 0} (r : Option (Bor X)) (P : X → Type 0) → IfSome (option_copied r) P → IfSome r (λ x. P x.now)
shown None P h = tt
shown (Some x) P h = h

-- and each entry is a row of its key
pub returns-clause-valid : goal.returns-clause-valid
returns-clause-valid c = shown _ (IsRowOf c.args.key.now) (rw c.get.ensures.value (c.self.invariant.at c.args.key.now))
