use Rattle.std.proofs.Common.{IsSome, ap, ◌∙◌, subst, arith}
use Rattle.std.specs.FinMap as maps
use Rattle.std.proofs.lemmas.List.{get_or_default}
use Rattle.dy_node_store.specs.Rows.{with_versions}
use Rattle.dy_hint_store.proofs.HomeLemmas.{found_hint, hints_with, inside_where_found}
use Rattle.dy_hint_store.proofs.stores.HintStore.replace_row.Goals as goal

-- the home has a map, since it has the row
pub index_mut-requires : goal.index_mut-requires
index_mut-requires c =
    let inside = inside_where_found _ _ _ _ c.args.row.key c.self.view_is c.number.ensures.value c.requires.present in
    omega (arith, inside, c.self.inside.homes.ok.0)

-- which is there that it is found
pub replace_row-requires-clause-present : goal.replace_row-requires-clause-present
replace_row-requires-clause-present c =
    let inside = inside_where_found _ _ _ _ c.args.row.key c.self.view_is c.number.ensures.value c.requires.present in
    let rows_are = c.index_mut.ensures.value ∙ get_or_default _ _ c.index_mut.result.now maps.empty inside in
    subst IsSome (found_hint _ _ _ _ c.args.row.key _ c.self.view_is c.number.ensures.value rows_are) c.requires.present

pub returns-clause-value : goal.returns-clause-value
returns-clause-value c =
    let inside = inside_where_found _ _ _ _ c.args.row.key c.self.view_is c.number.ensures.value c.requires.present in
    let rows_are = c.index_mut.ensures.value ∙ get_or_default _ _ c.index_mut.result.now maps.empty inside in
    found_hint _ _ _ _ c.args.row.key _ c.self.view_is c.number.ensures.value rows_are ∙ c.replace_row.ensures.value

pub returns-clause-hints : goal.returns-clause-hints
returns-clause-hints c =
    let inside = inside_where_found _ _ _ _ c.args.row.key c.self.view_is c.number.ensures.value c.requires.present in
    let rows_are = c.index_mut.ensures.value ∙ get_or_default _ _ c.index_mut.result.now maps.empty inside in
    hints_with _ _ _ _ c.args.row.key c.args.row.versions _ c.self.view_is c.number.ensures.value inside
    (c.replace_row.ensures.rows ∙ ap (λ rows. with_versions rows c.args.row.key c.args.row.versions) rows_are)
