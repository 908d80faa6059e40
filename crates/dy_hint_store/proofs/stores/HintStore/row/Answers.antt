use Rattle.std.proofs.Common.{sym, ap, ◌∙◌, subst, ◌≤◌, length}
use Rattle.std.specs.FinMap as maps
use Rattle.dy_hint_store.specs.inside.Homes.{rows_for}
use Rattle.dy_hint_store.proofs.HomeLemmas.{found_hint, no_hint}
use Rattle.dy_hint_store.proofs.stores.HintStore.row.Goals as goal

-- the home's map was found, and answers for it
pub returns-in-Some-clause-value : goal.returns-in-Some-clause-value
returns-in-Some-clause-value c =
    let rows_are = c.in-Some.ensures.lookup.3.1 maps.empty ∙ ap (λ homes. rows_for homes c.number.result) c.deref.ensures.value in
    c.row.ensures.value ∙ sym (found_hint _ _ _ _ c.args.key.now _ c.self.view_is c.number.ensures.value rows_are)

-- it has none
pub returns-in-None-clause-value : goal.returns-in-None-clause-value
returns-in-None-clause-value c =
    let past = subst (λ homes. length homes ≤ c.number.result) c.deref.ensures.value c.in-None.ensures.lookup.3 in
    sym (no_hint _ _ _ _ c.args.key.now c.self.view_is c.number.ensures.value past)
