use Rattle.std.proofs.Common.{◌≡◌, ◌<◌, ◌≤◌, ◌+◌, ◌∷◌, ◌∙◌, length, drop, refl, sym, ap, arith}
use Rattle.std.specs.FinMap as maps
use Rattle.std.proofs.lemmas.List.{drop_more, drop_all}
use Rattle.dy_hint_store.specs.inside.Homes.{entries_from}
use Rattle.dy_hint_store.proofs.Listing.{entries_more, entries_of_hints}
use Rattle.dy_hint_store.proofs.stores.HintStore.len.Goals as goal

-- all are to come
pub loop-number-init : goal.loop-number-init
loop-number-init c =
    let all : length (entries_from 0 c.self.inside.homes.items) ≡ length (maps.entries c.args.self.now) =
    ap length (sym (entries_of_hints c.self.inside.homes.items) ∙ ap maps.entries c.self.view_is) in
    (0, refl, omega (arith, all))

-- those of this home come next
pub loop-number-preserved : goal.loop-number-preserved
loop-number-preserved c =
    let homes = c.self.inside.homes.items in
    let inside : c.loop-number.number < length homes = omega (arith, c.loop-number-test.true, c.len-number-end.ensures, c.self.inside.homes.ok.0) in
    let first_is = drop_more homes c.loop-number.number c.index.result.now inside
    ∙ ap (λ rows. rows ∷ drop (c.loop-number.number + 1) homes) (sym c.index.ensures) in
    let more = entries_more homes c.loop-number.number c.index.result.now first_is in (
      c.loop-number.invariant.0 + c.len.result,
      omega (arith, c.saturating_add-count.ensures, c.loop-number.invariant.1),
      omega (arith, more, c.len.ensures, c.loop-number.invariant.2),
    )

-- none are to come
pub returns : goal.returns
returns c =
    let homes = c.self.inside.homes.items in
    let past : length homes ≤ c.loop-number.number = omega (arith, c.loop-number-test.false, c.len-number-end.ensures, c.self.inside.homes.ok.0) in
    let none = ap (λ left. length (entries_from c.loop-number.number left)) (drop_all c.loop-number.number homes past) in
    omega (arith, c.loop-number.invariant.1, c.loop-number.invariant.2, none)
