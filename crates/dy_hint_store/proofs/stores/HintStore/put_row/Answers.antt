-- Room for the home shows the same hints, and then its map took the row or refused it.
use Rattle.std.proofs.Common.{◌≡◌, IsSome, None, OnErr, Result, Ok, Err, true, false, sym, ap, ◌∙◌, set, subst}
use Rattle.std.specs.FinMap as maps
use Rattle.std.proofs.lemmas.Bool.{true≢false}
use Rattle.std.proofs.lemmas.List.{get_or_default, set-get_or}
use Rattle.dy_node_store.specs.Rows.{with_versions}
use Rattle.dy_hint_store.specs.Hints.{with_versions_for}
use Rattle.dy_hint_store.specs.inside.Homes.{entries_from}
use Rattle.dy_hint_store.proofs.HomeLemmas.{found_hint, hints_with, no_hint, same_hints}
use Rattle.dy_hint_store.proofs.stores.HintStore.put_row.Goals as goal

-- what holds, holds of a refusal
refused : {A E : Type 0} {P : Type 0} (r : Result A E) → P → OnErr r P
refused (Ok x) p = tt
refused (Err e) p = p

-- the row has no version
pub returns-then-is_empty-clause-ok : goal.returns-then-is_empty-clause-ok
returns-then-is_empty-clause-ok c =
    c.remove_row-before.ensures.hints
    ∙ ap (λ k. maps.remove c.args.self.now (c.args.home, k)) c.key.ensures
    ∙ sym (ap (with_versions_for c.args.self.now c.args.home c.args.row.key)
    (c.is_empty.ensures.0 c.if-is_empty.true))

-- no room was made
pub returns-in_err-make_room-clause-err : goal.returns-in_err-make_room-clause-err
returns-in_err-make_room-clause-err c =
    refused _ (same_hints _ _ c.make_room.ensures.same ∙ c.self.view_is)

pub returns-in_err-make_room-clause-spared : goal.returns-in_err-make_room-clause-spared
returns-in_err-make_room-clause-spared c some =
    let none = no_hint _ _ _ _ c.args.row.key c.self.view_is c.number-at.ensures.value
    c.in_err-make_room.ensures.short in
    let both : false ≡ true = subst IsSome none some in
    absurd (true≢false (sym both))

pub returns-in_err-make_room-clause-emptied : goal.returns-in_err-make_room-clause-emptied
returns-in_err-make_room-clause-emptied c none =
    absurd (true≢false (sym (c.is_empty.ensures.1 none) ∙ c.if-is_empty.false))

-- the map refused the row, and is as it was
pub returns-in_err-put_row-clause-err : goal.returns-in_err-put_row-clause-err
returns-in_err-put_row-clause-err c =
    refused _ (ap (λ rows. maps.from_entries (entries_from 0 (set c.make_room.new.homes.items c.number-at.result rows))) (c.in_err-put_row.ensures.err ∙ c.index_mut.ensures.value)
    ∙ ap (λ homes. maps.from_entries (entries_from 0 homes)) (set-get_or _ _ c.index_mut.result.now)
    ∙ same_hints _ _ c.make_room.ensures.same ∙ c.self.view_is)

pub returns-in_err-put_row-clause-spared : goal.returns-in_err-put_row-clause-spared
returns-in_err-put_row-clause-spared c some =
    let view = same_hints _ _ c.make_room.ensures.same ∙ c.self.view_is in
    let rows_are = c.index_mut.ensures.value ∙ get_or_default _ _ c.index_mut.result.now maps.empty c.in_ok-make_room.ensures.room in
    let there = found_hint _ _ _ _ c.args.row.key _ view c.number-at.ensures.value rows_are in
    let both : false ≡ true = c.in_err-put_row.ensures.spared (subst IsSome there some) in
    absurd (true≢false (sym both))

-- the map took it
pub returns-clause-ok : goal.returns-clause-ok
returns-clause-ok c =
    let view = same_hints _ _ c.make_room.ensures.same ∙ c.self.view_is in
    let inside = c.in_ok-make_room.ensures.room in
    let rows_are = c.index_mut.ensures.value ∙ get_or_default _ _ c.index_mut.result.now maps.empty inside in
    hints_with _ _ _ _ c.args.row.key c.args.row.versions _ view c.number-at.ensures.value inside
    (c.in_ok-put_row.ensures.ok ∙ ap (λ rows. with_versions rows c.args.row.key c.args.row.versions) rows_are)
