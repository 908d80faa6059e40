-- By what the key's row was, and by whether versions of it are left.
use Rattle.std.proofs.Common.{None, Some, IsSome, IfSome, refl, sym, ap, ◌∙◌, subst}
use Rattle.std.specs.Option.{option_copied_mut}
use Rattle.std.specs.FinMap as maps
use Rattle.dy_node_store.specs.Rows.{with_versions, versions_in, without_dots, IsRowOf}
use Rattle.dy_node_store.proofs.Hashed.{found, inserted, removed, answers_again}
use Rattle.dy_node_store.proofs.Maps.{remove_absent}
use Rattle.dy_node_store.proofs.RowLemmas.{AreRows-changed, with_versions_filled, has_version}
use Rattle.dy_node_store.proofs.row_maps.RowMap.remove_dots.Goals as goal

-- a key with no row keeps none
pub returns-in_default : goal.returns-in_default
returns-in_default c =
    let none = found _ _ _ _ _ c.self.view_is refl c.get_mut.ensures.value ∙ ap option_copied_mut c.in_default.is in
    ap (λ m. maps.from_entries m.entries) c.get_mut.follows.holds-at-none ∙ c.self.view_is
    ∙ sym (remove_absent _ _ none)
    ∙ sym (ap (λ o. with_versions c.args.self.now c.args.key.now (without_dots (versions_in o) c.args.dots.now)) none)

-- versions are left: the row has the same key
pub invariant_of-self-then-not-is_empty : goal.invariant_of-self-then-not-is_empty
invariant_of-self-then-not-is_empty c =
    let filled = has_version _ _ c.is_empty.ensures.1 c.if-not-is_empty.true in
    let was = sym (sym (ap option_copied_mut c.in-Some.is) ∙ c.get_mut.ensures.value) in
    let row = subst (λ o. IfSome o (IsRowOf c.args.key.now)) was (c.self.invariant.at c.args.key.now) in
    let present = subst IsSome (sym was) refl in
    AreRows-changed _ _ c.args.key.now (Some c.drop_dots.new.row) c.self.invariant
    (c.drop_dots.ensures.key ∙ row.0, filled) ((c.get_mut.follows.holds c.drop_dots.new.row).3 present).0

pub returns-then-not-is_empty : goal.returns-then-not-is_empty
returns-then-not-is_empty c =
    let filled = has_version _ _ c.is_empty.ensures.1 c.if-not-is_empty.true in
    let was = sym (sym (ap option_copied_mut c.in-Some.is) ∙ c.get_mut.ensures.value) in
    let row = subst (λ o. IfSome o (IsRowOf c.args.key.now)) was (c.self.invariant.at c.args.key.now) in
    let key = c.drop_dots.ensures.key ∙ row.0 in
    let there = found _ _ _ _ _ c.self.view_is refl c.get_mut.ensures.value ∙ ap option_copied_mut c.in-Some.is in
    let present = subst IsSome (sym was) refl in
    inserted _ _ _ _ ((c.get_mut.follows.holds c.drop_dots.new.row).3 present).0
    ∙ (λ i. maps.insert (c.self.view_is i) c.args.key.now (record { key = key i; versions = c.drop_dots.new.row.versions }))
    ∙ sym (with_versions_filled _ _ _ filled)
    ∙ ap (with_versions c.args.self.now c.args.key.now) c.drop_dots.ensures.versions
    ∙ sym (ap (λ o. with_versions c.args.self.now c.args.key.now (without_dots (versions_in o) c.args.dots.now)) there)

-- none is left: the row goes
pub invariant_of-self-2 : goal.invariant_of-self-2
invariant_of-self-2 c =
    let was = sym (sym (ap option_copied_mut c.in-Some.is) ∙ c.get_mut.ensures.value) in
    let present = subst IsSome (sym was) refl in
    let written = ((c.get_mut.follows.holds c.drop_dots.new.row).3 present).0 in
    AreRows-changed _ _ c.args.key.now None c.self.invariant tt
    (answers_again _ _ _ _ _ _ written c.remove-emptied.ensures.updates.0)

pub returns : goal.returns
returns c =
    let was = sym (sym (ap option_copied_mut c.in-Some.is) ∙ c.get_mut.ensures.value) in
    let there = found _ _ _ _ _ c.self.view_is refl c.get_mut.ensures.value ∙ ap option_copied_mut c.in-Some.is in
    let present = subst IsSome (sym was) refl in
    let written = ((c.get_mut.follows.holds c.drop_dots.new.row).3 present).0 in
    removed _ _ _ (answers_again _ _ _ _ _ _ written c.remove-emptied.ensures.updates.0)
    ∙ ap (λ m. maps.remove m c.args.key.now) c.self.view_is
    ∙ ap (with_versions c.args.self.now c.args.key.now) (sym (c.is_empty.ensures.0 c.if-not-is_empty.false) ∙ c.drop_dots.ensures.versions)
    ∙ sym (ap (λ o. with_versions c.args.self.now c.args.key.now (without_dots (versions_in o) c.args.dots.now)) there)
