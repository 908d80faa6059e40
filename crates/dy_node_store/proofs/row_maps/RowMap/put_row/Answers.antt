-- By whether the row has a version, and whether its key has a row.
use Rattle.std.proofs.Common.{◌≡◌, Option, None, Some, IsSome, true, false, refl, sym, ap, ◌∙◌, subst}
use Rattle.std.specs.FinMap as maps
use Rattle.std.specs.Option.{is_some}
use Rattle.std.proofs.lemmas.Bool.{true≢false}
use Rattle.dy_node_store.specs.Rows.{with_versions}
use Rattle.dy_node_store.proofs.Hashed.{found}
use Rattle.dy_node_store.proofs.row_maps.RowMap.put_row.Goals as goal

none_is : {X : Type 0} (o : Option X) → is_some o ≡ false → o ≡ None
none_is None e = refl
none_is (Some x) e = cc

-- the row has none
pub returns-then-is_empty-clause-ok : goal.returns-then-is_empty-clause-ok
returns-then-is_empty-clause-ok c =
    c.remove_row-before.ensures.rows
    ∙ ap (maps.remove c.args.self.now) c.key.ensures
    ∙ sym (ap (with_versions c.args.self.now c.args.row.key)
    (c.is_empty.ensures.0 c.if-is_empty.true))

-- the key has a row
pub replace_row-before-requires-clause-present : goal.replace_row-before-requires-clause-present
replace_row-before-requires-clause-present c =
    let there = found _ _ _ c.args.row.key _ c.self.view_is c.key-2.ensures refl in
    subst IsSome (sym there) (sym c.contains_key.ensures ∙ c.if-contains_key.true)

-- the key has none
pub put_new-requires-clause-absent : goal.put_new-requires-clause-absent
put_new-requires-clause-absent c =
    let there = found _ _ _ c.args.row.key _ c.self.view_is c.key-2.ensures refl in
    there ∙ none_is _ (sym c.contains_key.ensures ∙ c.if-contains_key.false)

pub returns-in_err-put_new-clause-spared : goal.returns-in_err-put_new-clause-spared
returns-in_err-put_new-clause-spared c = λ some.
    let there = found _ _ _ c.args.row.key _ c.self.view_is c.key-2.ensures refl in
    let absent = there ∙ none_is _ (sym c.contains_key.ensures ∙ c.if-contains_key.false) in
    let both : false ≡ true = subst IsSome absent some in
    absurd (true≢false (sym both))
