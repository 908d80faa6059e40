use Rattle.std.proofs.Common.{sym, ap, ◌∙◌, ◌≤◌, ◌<◌, length, arith}
use Rattle.std.specs.FinMap as maps
use Rattle.std.proofs.lemmas.List.{get_or_default}
use Rattle.dy_node_store.specs.Rows.{with_versions, versions_of, versions_in, without_dots}
use Rattle.dy_hint_store.specs.Hints.{with_versions_for}
use Rattle.dy_hint_store.proofs.HomeLemmas.{found_hint, no_hint, hints_with, remove_absent}
use Rattle.dy_hint_store.proofs.stores.HintStore.remove_dots.Goals as goal

-- the home has no map
pub returns-then-len-at : goal.returns-then-len-at
returns-then-len-at c =
    let past : length c.self.inside.homes.items ≤ c.number-at.result = omega (arith, c.if-len-at.true, c.len.ensures, c.self.inside.homes.ok.0) in
    let none = no_hint _ _ _ _ c.args.key.now c.self.view_is c.number-at.ensures.value past in
    sym (remove_absent _ _ _ none)
    ∙ sym (ap (λ o. with_versions_for c.args.self.now c.args.home c.args.key.now (without_dots (versions_in o) c.args.dots.now)) none)

-- the versions that go are those of its map
pub returns : goal.returns
returns c =
    let inside : c.number-at.result < length c.self.inside.homes.items = omega (arith, c.if-len-at.false, c.len.ensures, c.self.inside.homes.ok.0) in
    let rows_are = c.index_mut.ensures.value ∙ get_or_default _ _ c.index_mut.result.now maps.empty inside in
    let there = found_hint _ _ _ _ c.args.key.now _ c.self.view_is c.number-at.ensures.value rows_are in
    hints_with _ _ _ _ c.args.key.now (without_dots (versions_of c.index_mut.result.now c.args.key.now) c.args.dots.now) _ c.self.view_is c.number-at.ensures.value inside
    (c.remove_dots.ensures ∙ ap (λ rows. with_versions rows c.args.key.now (without_dots (versions_of c.index_mut.result.now c.args.key.now) c.args.dots.now)) rows_are)
    ∙ sym (ap (λ o. with_versions_for c.args.self.now c.args.home c.args.key.now (without_dots (versions_in o) c.args.dots.now)) there)
