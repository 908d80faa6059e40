use Rattle.std.proofs.Common.{◌≡◌, ◌≤◌, ◌<◌, ℕ, List, ◌∷◌, ◌+◌, ◌++◌, length, map, drop, refl, sym, ap, ◌∙◌, subst, arith}
use Rattle.std.specs.FinMap as maps
use Rattle.std.specs.List.{All}
use Rattle.std.proofs.lemmas.List.{drop_more, drop_all, append-nil, get_or_default}
use Rattle.std.proofs.lemmas.List.Elements.{All-append, All-nil}
use Rattle.dy_node_store.specs.Rows.{IsKeptRow}
use Rattle.dy_node_store.proofs.RowLemmas.{All-mapped}
use Rattle.dy_hint_store.specs.Hints.{IsHint, home_and_row, shown}
use Rattle.dy_hint_store.specs.inside.Homes.{entries_from}
use Rattle.dy_hint_store.proofs.HomeLemmas.{found_hint}
use Rattle.dy_hint_store.proofs.Listing.{entries_of_hints, hints_of_home, shown_before}
use Rattle.dy_hint_store.proofs.stores.HintStore.list.Goals as goal

-- all are to come, in the order of the hints
pub loop-number-init : goal.loop-number-init
loop-number-init c = (
  ap (λ hints. map shown hints ++ map home_and_row (entries_from 0 (drop 0 c.self.inside.homes.items))) c.new-hints.ensures.items
      ∙ ap (map home_and_row) (sym (entries_of_hints c.self.inside.homes.items) ∙ ap maps.entries c.self.view_is),
  subst (λ hints. All (IsHint c.args.self.now) (map shown hints)) (sym c.new-hints.ensures.items)
      (All-nil (IsHint c.args.self.now)),
)

-- those of this home come next
pub loop-number-preserved : goal.loop-number-preserved
loop-number-preserved c =
    let homes = c.self.inside.homes.items in
    let inside : c.loop-number.number < length homes = omega (arith, c.loop-number-test.true, c.len-number-end.ensures, c.self.inside.homes.ok.0) in
    let first_is = drop_more homes c.loop-number.number c.index.result.now inside ∙ ap (λ rows. rows ∷ drop (c.loop-number.number + 1) homes) (sym c.index.ensures) in
    let rows_are = ap (map (λ row. row.now)) c.as_slice.ensures.value ∙ c.in_ok-rows.ensures.value in
    let to_come = map home_and_row (entries_from (c.loop-number.number + 1) (drop (c.loop-number.number + 1) homes)) in
    let rows_here = c.index.ensures ∙ get_or_default homes c.loop-number.number c.index.result.now maps.empty inside in
    let found : (key : List ℕ) → maps.get c.args.self.now (c.loop-number.number, key) ≡ maps.get c.index.result.now key = λ key. found_hint homes c.args.self.now c.loop-number.number c.loop-number.number key c.index.result.now c.self.view_is refl rows_here in
    let kept = subst (All (λ row. IsKeptRow c.index.result.now row.now)) (sym c.as_slice.ensures.value) c.in_ok-rows.ensures.kept in (
      ap (λ hints. hints ++ to_come) c.in_ok-add_hints.ensures.ok
          ∙ ap (λ home. (map shown c.loop-number.hints.items ++ map (λ row. shown (home, row)) c.as_slice.result.now) ++ to_come) c.nth.ensures
          ∙ shown_before homes c.loop-number.number c.index.result.now c.as_slice.result.now _ first_is rows_are
          ∙ c.loop-number.invariant.0,
      subst (All (IsHint c.args.self.now)) (sym c.in_ok-add_hints.ensures.ok)
          (All-append (IsHint c.args.self.now) (map shown c.loop-number.hints.items) _
          c.loop-number.invariant.1
          (subst (λ home. All (IsHint c.args.self.now) (map (λ row. shown (home, row)) c.as_slice.result.now))
          (sym c.nth.ensures)
          (hints_of_home c.args.self.now c.loop-number.number c.index.result.now found c.as_slice.result.now kept))),
    )

-- none are to come
pub returns-clause-value : goal.returns-clause-value
returns-clause-value c =
    let homes = c.self.inside.homes.items in
    let past : length homes ≤ c.loop-number.number = omega (arith, c.loop-number-test.false, c.len-number-end.ensures, c.self.inside.homes.ok.0) in
    sym (append-nil (map shown c.loop-number.hints.items))
    ∙ ap (λ left. map shown c.loop-number.hints.items ++ map home_and_row (entries_from c.loop-number.number left)) (sym (drop_all c.loop-number.number homes past))
    ∙ c.loop-number.invariant.0

-- and each that is listed is kept
pub returns-clause-kept : goal.returns-clause-kept
returns-clause-kept c =
    All-mapped (IsHint c.args.self.now) shown c.loop-number.hints.items c.loop-number.invariant.1
