use Rattle.std.proofs.Common.{rules, map, sym, ap, ◌∙◌, subst}
use Rattle.std.specs.List.{All}
use Rattle.std.proofs.lemmas.List.Elements.{All-push}
use Rattle.dy_node_store.specs.Rows.{IsRowOf}
use Rattle.dy_hint_store.specs.Hints.{shown}
use Rattle.dy_node.proofs.stores.Stores.list_key.Goals.{in-Some-row+in_ok-add_row-2, in_default-row}
use Rattle.dy_node.proofs.stores.Stores.list_key.Goals as goal

-- each row that is added is one of the key
pub loop-number-preserved : goal.loop-number-preserved
loop-number-preserved c = (
  search rules,
  elim c.match-row-2.branch [
    | in-Some-row+in_ok-add_row-2 w ↦
        subst (All (λ row. IsRowOf c.args.key.now row.1))
        (sym (ap (λ rows. map shown rows.items) w.rows-is ∙ w.in_ok-add_row-2.ensures.ok))
        (All-push (λ row. IsRowOf c.args.key.now row.1) _ _ c.loop-number.invariant.1
        w.in-Some-row.ensures.valid)
    | in_default-row w ↦
        subst (λ rows. All (λ row. IsRowOf c.args.key.now row.1) (map shown rows.items))
        (sym w.rows-is) c.loop-number.invariant.1
  ],
)
