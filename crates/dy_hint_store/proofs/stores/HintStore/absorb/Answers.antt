-- Room for the home shows the same hints, and then its map took in the row or refused it.
use Rattle.std.proofs.Common.{◌++◌, OnErr, Result, Ok, Err, sym, ap, ◌∙◌, set, subst}
use Rattle.std.proofs.lemmas.Result.{IfOk-weaker, on_err_weaker}
use Rattle.std.specs.FinMap as maps
use Rattle.std.proofs.lemmas.List.{get_or_default, set-get_or}
use Rattle.dy_siblings.specs.Siblings.{AreOneByDot}
use Rattle.dy_node_store.specs.Rows.{versions_in}
use Rattle.dy_node_store.proofs.AbsorbLemmas.{not_none}
use Rattle.dy_hint_store.specs.inside.Homes.{entries_from}
use Rattle.dy_hint_store.proofs.HomeLemmas.{absorbed_for, found_hint, no_hint, same_hints}
use Rattle.dy_hint_store.proofs.stores.HintStore.absorb.Goals as goal

-- what holds, holds of a refusal
refused : {A E : Type 0} {P : Type 0} (r : Result A E) → P → OnErr r P
refused (Ok x) p = tt
refused (Err e) p = p

-- no room was made
pub returns-in_err-make_room-clause-err : goal.returns-in_err-make_room-clause-err
returns-in_err-make_room-clause-err c =
    refused _ (same_hints _ _ c.make_room.ensures.same ∙ c.self.view_is)

pub returns-in_err-make_room-clause-spared : goal.returns-in_err-make_room-clause-spared
returns-in_err-make_room-clause-spared c same =
    absurd (not_none c.args.row.now (sym same
    ∙ no_hint _ _ _ _ c.args.row.now.key c.self.view_is c.number-at.ensures.value
    c.in_err-make_room.ensures.short))

-- what the map keeps of the key is what is kept for the home
pub absorb-requires : goal.absorb-requires
absorb-requires c =
    let view = same_hints _ _ c.make_room.ensures.same ∙ c.self.view_is in
    let rows_are = c.index_mut.ensures.value ∙ get_or_default _ _ c.index_mut.result.now maps.empty c.in_ok-make_room.ensures.room in
    let there = found_hint _ _ _ _ c.args.row.now.key _ view c.number-at.ensures.value rows_are in
    subst (λ o. AreOneByDot (versions_in o ++ c.args.row.now.versions)) there c.requires

-- the map refused the row, and is as it was
pub returns-clause-err : goal.returns-clause-err
returns-clause-err c = on_err_weaker c.absorb.result
    (λ same. ap (λ rows. maps.from_entries (entries_from 0 (set c.make_room.new.homes.items c.number-at.result rows))) (same ∙ c.index_mut.ensures.value)
    ∙ ap (λ homes. maps.from_entries (entries_from 0 homes)) (set-get_or _ _ c.index_mut.result.now)
    ∙ same_hints _ _ c.make_room.ensures.same ∙ c.self.view_is)
    c.absorb.ensures.err

pub returns-clause-spared : goal.returns-clause-spared
returns-clause-spared c same =
    let view = same_hints _ _ c.make_room.ensures.same ∙ c.self.view_is in
    let rows_are = c.index_mut.ensures.value ∙ get_or_default _ _ c.index_mut.result.now maps.empty c.in_ok-make_room.ensures.room in
    let there = found_hint _ _ _ _ c.args.row.now.key _ view c.number-at.ensures.value rows_are in
    c.absorb.ensures.spared (sym there ∙ same)

-- the map took it in
pub returns-clause-ok : goal.returns-clause-ok
returns-clause-ok c =
    let view = same_hints _ _ c.make_room.ensures.same ∙ c.self.view_is in
    let inside = c.in_ok-make_room.ensures.room in
    let rows_are = c.index_mut.ensures.value ∙ get_or_default _ _ c.index_mut.result.now maps.empty inside in
    IfOk-weaker c.absorb.result _ _
    (λ placed ok. absorbed_for c.make_room.new.homes.items c.args.self.now c.number-at.result c.args.home
    c.index_mut.result.now c.absorb.new.self c.args.row.now placed view
    c.number-at.ensures.value inside rows_are ok)
    c.absorb.ensures.ok
