-- By whether the key has a row.
use Rattle.std.proofs.Common.{◌≡◌, ◌++◌, None, Some, IsSome, IfSome, IfOk, OnErr, Result, Ok, Err, refl, sym, ap, ◌∙◌, subst}
use Rattle.std.proofs.lemmas.Result.{IfOk-weaker, on_err_weaker}
use Rattle.std.specs.Option.{option_copied_mut}
use Rattle.std.specs.Ordering.{nat_cmp}
use Rattle.std.specs.Cmp.Lexicographic.{slice_cmp}
use Rattle.std.specs.FinMap as maps
use Rattle.dy_siblings.specs.Siblings.{Siblings, AreOneByDot}
use Rattle.dy_dots.specs.declared.faults.Fault.{Fault}
use Rattle.dy_node_store.specs.Absorbing.{IsAbsorbed}
use Rattle.dy_node_store.specs.Rows.{with_versions, versions_in, IsRowOf}
use Rattle.dy_node_store.specs.declared.placed.Placed.{Placed}
use Rattle.dy_node_store.proofs.AbsorbLemmas.{absorbed_row, absorbed_rows, found_row, not_none}
use Rattle.dy_node_store.proofs.Hashed.{found, inserted}
use Rattle.dy_node_store.proofs.Maps.{insert_present}
use Rattle.dy_node_store.proofs.RowLemmas.{AreRows-changed}
use Rattle.dy_node_store.proofs.row_maps.RowMap.absorb.Goals as goal

-- the row that is kept of a key stays one of that key, whatever comes of it
stays_of_key : (old new row : Siblings) (r : Result Placed Fault) → IsRowOf row.key old →
    IfOk r (IsAbsorbed old new (λ vs. record { key = row.key; versions = vs }) (Some old) row) →
    OnErr r (new ≡ old) → IsRowOf row.key new
stays_of_key old new row (Ok placed) is ok err = absorbed_row old new row placed is ok
stays_of_key old new row (Err e) is ok err = subst (IsRowOf row.key) (sym err) is

-- it has one
pub merge_into-requires-clause-of_key : goal.merge_into-requires-clause-of_key
merge_into-requires-clause-of_key c =
    found_row _ _ _ _ c.self.invariant c.key.ensures
    (sym c.get_mut.ensures.value ∙ ap option_copied_mut c.in-Some.is)

pub merge_into-requires-clause-agree : goal.merge_into-requires-clause-agree
merge_into-requires-clause-agree c =
    let there = found _ _ _ _ _ c.self.view_is c.key.ensures c.get_mut.ensures.value ∙ ap option_copied_mut c.in-Some.is in
    subst (λ o. AreOneByDot (versions_in o ++ c.args.row.now.versions)) there c.requires

pub invariant_of-self : goal.invariant_of-self
invariant_of-self c =
    let row = found_row _ _ _ _ c.self.invariant c.key.ensures
    (sym c.get_mut.ensures.value ∙ ap option_copied_mut c.in-Some.is) in
    let present = subst IsSome (sym (ap option_copied_mut c.in-Some.is) ∙ c.get_mut.ensures.value) refl in
    AreRows-changed _ _ _ (Some c.merge_into.new.kept) c.self.invariant
    (subst (λ k. IsRowOf k c.merge_into.new.kept) (sym c.key.ensures)
    (stays_of_key c.in-Some.kept.now c.merge_into.new.kept c.args.row.now c.merge_into.result row
    c.merge_into.ensures.ok c.merge_into.ensures.err))
    ((c.get_mut.follows.holds c.merge_into.new.kept).3 present).0

pub returns-in-Some-clause-ok : goal.returns-in-Some-clause-ok
returns-in-Some-clause-ok c =
    let present = subst IsSome (sym (ap option_copied_mut c.in-Some.is) ∙ c.get_mut.ensures.value) refl in
    let there = found _ _ _ _ _ c.self.view_is c.key.ensures c.get_mut.ensures.value ∙ ap option_copied_mut c.in-Some.is in
    IfOk-weaker c.merge_into.result _ _
    (λ placed ok. absorbed_rows c.args.self.now _ c.in-Some.kept.now c.merge_into.new.kept
    c.args.row.now placed there
    (inserted _ _ _ _ ((c.get_mut.follows.holds c.merge_into.new.kept).3 present).0
    ∙ (λ i. maps.insert (c.self.view_is i) (c.key.ensures i) c.merge_into.new.kept)) ok)
    c.merge_into.ensures.ok

pub returns-in-Some-clause-err : goal.returns-in-Some-clause-err
returns-in-Some-clause-err c =
    let present = subst IsSome (sym (ap option_copied_mut c.in-Some.is) ∙ c.get_mut.ensures.value) refl in
    let there = found _ _ _ _ _ c.self.view_is refl c.get_mut.ensures.value ∙ ap option_copied_mut c.in-Some.is in
    on_err_weaker c.merge_into.result
    (λ same. inserted _ _ _ _ ((c.get_mut.follows.holds c.merge_into.new.kept).3 present).0
    ∙ (λ i. maps.insert (c.self.view_is i) c.key.result.now (same i))
    ∙ insert_present _ _ _ there)
    c.merge_into.ensures.err

pub returns-in-Some-clause-spared : goal.returns-in-Some-clause-spared
returns-in-Some-clause-spared c same =
    let there = found _ _ _ _ _ c.self.view_is c.key.ensures c.get_mut.ensures.value ∙ ap option_copied_mut c.in-Some.is in
    c.merge_into.ensures.spared
    (subst (λ o. IfSome o (λ (row : Siblings). c.in-Some.kept.now ≡ row)) (sym there ∙ same) refl)

-- it has none
pub absorb_new-requires : goal.absorb_new-requires
absorb_new-requires c = record {
  absent = ap (λ m. maps.get (maps.from_entries {R = slice_cmp nat_cmp} m.entries) c.args.row.now.key) c.get_mut.follows.holds-at-none
      ∙ found _ _ _ _ _ refl c.key.ensures c.get_mut.ensures.value ∙ ap option_copied_mut c.in-None.is;
}

pub returns-in-None-clause-ok : goal.returns-in-None-clause-ok
returns-in-None-clause-ok c =
    let row = c.args.row.now in
    let new = c.absorb_new.new.self in
    let none = found _ _ _ _ _ c.self.view_is c.key.ensures c.get_mut.ensures.value ∙ ap option_copied_mut c.in-None.is in
    let stays = ap (λ m. maps.from_entries m.entries) c.get_mut.follows.holds-at-none ∙ c.self.view_is in
    IfOk-weaker c.absorb_new.result _ _
    (λ placed ok. subst (λ o. IsAbsorbed c.args.self.now new (with_versions c.args.self.now row.key) o row placed)
    (sym none) (subst (λ m. IsAbsorbed m new (with_versions m row.key) None row placed) stays ok))
    c.absorb_new.ensures.ok

pub returns-in-None-clause-spared : goal.returns-in-None-clause-spared
returns-in-None-clause-spared c same =
    absurd (not_none c.args.row.now (sym same
    ∙ found _ _ _ _ _ c.self.view_is c.key.ensures c.get_mut.ensures.value ∙ ap option_copied_mut c.in-None.is))
