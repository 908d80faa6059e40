use Rattle.std.proofs.Common.{sym, ap, ◌∙◌, ◌≤◌, ◌<◌, [], length, arith}
use Rattle.std.specs.FinMap as maps
use Rattle.std.proofs.lemmas.List.{get_or_default}
use Rattle.dy_hint_store.proofs.HomeLemmas.{found_hint, no_hint, hints_with, remove_absent}
use Rattle.dy_hint_store.proofs.stores.HintStore.remove_row.Goals as goal

-- the home has no map
pub returns-then-len-at-clause-value : goal.returns-then-len-at-clause-value
returns-then-len-at-clause-value c =
    let past : length c.self.inside.homes.items ≤ c.number-at.result = omega (arith, c.if-len-at.true, c.len.ensures, c.self.inside.homes.ok.0) in
    sym (no_hint _ _ _ _ c.args.key.now c.self.view_is c.number-at.ensures.value past)

pub returns-then-len-at-clause-hints : goal.returns-then-len-at-clause-hints
returns-then-len-at-clause-hints c = sym (remove_absent _ _ _ (sym (returns-then-len-at-clause-value c)))

-- its map has the row, if there is one
pub returns-clause-value : goal.returns-clause-value
returns-clause-value c =
    let inside : c.number-at.result < length c.self.inside.homes.items = omega (arith, c.if-len-at.false, c.len.ensures, c.self.inside.homes.ok.0) in
    let rows_are = c.index_mut.ensures.value ∙ get_or_default _ _ c.index_mut.result.now maps.empty inside in
    c.remove_row.ensures.value ∙ sym (found_hint _ _ _ _ c.args.key.now _ c.self.view_is c.number-at.ensures.value rows_are)

pub returns-clause-hints : goal.returns-clause-hints
returns-clause-hints c =
    let inside : c.number-at.result < length c.self.inside.homes.items = omega (arith, c.if-len-at.false, c.len.ensures, c.self.inside.homes.ok.0) in
    let rows_are = c.index_mut.ensures.value ∙ get_or_default _ _ c.index_mut.result.now maps.empty inside in
    hints_with _ _ _ _ c.args.key.now [] _ c.self.view_is c.number-at.ensures.value inside
    (c.remove_row.ensures.rows ∙ ap (λ rows. maps.remove rows c.args.key.now) rows_are)
