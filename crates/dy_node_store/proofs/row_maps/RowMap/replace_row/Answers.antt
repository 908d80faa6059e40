use Rattle.std.proofs.Common.{◌≡◌, true, false, Some, IsSome, refl, sym, ap, ◌∙◌, subst}
use Rattle.std.specs.Option.{option_copied_mut}
use Rattle.std.specs.FinMap as maps
use Rattle.dy_node_store.proofs.Hashed.{found, inserted}
use Rattle.dy_node_store.proofs.RowLemmas.{AreRows-changed, with_versions_filled}
use Rattle.dy_node_store.proofs.row_maps.RowMap.replace_row.Goals as goal

-- the key has a row, so one is found
pub unreachable-requires : goal.unreachable-requires
unreachable-requires c =
    let none = found _ _ _ _ _ c.self.view_is c.key.ensures c.get_mut.ensures.value ∙ ap option_copied_mut c.in-None.is in
    let both : false ≡ true = subst IsSome none c.requires.present in
    cc

-- the new row is one of its key
pub invariant_of-self : goal.invariant_of-self
invariant_of-self c =
    let written = c.get_mut.follows.holds c.replace.new.dest in
    let present = subst IsSome (sym (ap option_copied_mut c.in-Some.is) ∙ c.get_mut.ensures.value) refl in
    AreRows-changed _ _ _ (Some c.replace.new.dest) c.self.invariant
    (rw c.replace.ensures.after (sym c.key.ensures, c.requires.filled)) (written.3 present).0

pub returns-clause-value : goal.returns-clause-value
returns-clause-value c =
    found _ _ _ _ _ c.self.view_is c.key.ensures c.get_mut.ensures.value ∙ ap option_copied_mut c.in-Some.is ∙ ap Some (sym c.replace.ensures.value)

-- the row is written at its key, and at no other
pub returns-clause-rows : goal.returns-clause-rows
returns-clause-rows c =
    let written = c.get_mut.follows.holds c.replace.new.dest in
    let present = subst IsSome (sym (ap option_copied_mut c.in-Some.is) ∙ c.get_mut.ensures.value) refl in
    inserted _ _ _ _ (written.3 present).0
    ∙ (λ i. maps.insert (c.self.view_is i) (c.key.ensures i) (c.replace.ensures.after i))
    ∙ sym (with_versions_filled _ _ _ c.requires.filled)
