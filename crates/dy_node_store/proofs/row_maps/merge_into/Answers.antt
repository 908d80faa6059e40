-- By whether one version follows the one that is there, or comes beside those that are.
use Rattle.std.proofs.Common.{◌≡◌, ◌∷◌, [], true, false, List, Some, IfSome, IfNone, IfOk, refl, sym, ap, ◌∙◌, subst, arith}
use Rattle.dy_siblings.specs.Siblings.{Siblings, IsSameRow, merge, without}
use Rattle.dy_siblings.specs.Versions.{VersionParts}
use Rattle.dy_node_store.specs.Absorbing.{IsAbsorbed, IsMergeOf}
use Rattle.dy_node_store.proofs.AbsorbLemmas.{filled_before, follower_differs, without_one}
use Rattle.dy_node_store.proofs.row_maps.merge_into.Goals as goal

-- one follows: it is the merge
pub returns-in-Some-clause-ok : goal.returns-in-Some-clause-ok
returns-in-Some-clause-ok c =
    let v : VersionParts = c.in-Some.version.now in
    let copy : c.in_ok-copy.copy ≡ v = c.in_ok-copy.ensures.value in
    let merge_of : IsMergeOf c.args.kept.now c.args.row.now (v ∷ []) = record {
      one_key = c.requires.of_key;
      differ = follower_differs c.args.kept.now c.args.row.now v c.in-Some.ensures.some;
      merged = c.in-Some.ensures.merge;
      filled = omega arith;
    } in (
      ap Some (sym c.replace-before.ensures.value),
      (
        v ∷ [],
        c.replace-before.ensures.after ∙ c.in_ok-follower.ensures.ok
            ∙ (λ i. record { key = (copy i).key; versions = copy i ∷ [] })
            ∙ (λ i. record { key = c.in-Some.ensures.key i; versions = v ∷ [] }),
        subst (λ (k : Siblings). IsMergeOf k c.args.row.now (v ∷ []))
            (sym c.replace-before.ensures.value) merge_of,
      ),
    )

-- one comes beside
pub returns-in-Some-2-clause-ok : goal.returns-in-Some-2-clause-ok
returns-in-Some-2-clause-ok c =
    let new = c.put_beside.new.self in
    let old = c.args.kept.now in
    let back : without new.versions c.in-Some-2.put.1 ≡ old.versions =
    subst (λ o. IfSome o (λ p. without new.versions p.1 ≡ old.versions)) c.in-Some-2.is c.in_ok-put.ensures.back in
    let key = c.in_ok-put.ensures.key ∙ c.requires.of_key.0 in (
      old,
      refl,
      (
        new.versions,
        (λ i. record { key = key i; versions = new.versions }),
        record {
          one_key = c.requires.of_key;
          differ = λ same. let both : true ≡ false = sym (c.is_same.ensures.1 same)
              ∙ c.if-is_same.false in cc;
          merged = subst (λ o. IfSome o (λ p. IsSameRow new.versions (merge old.versions c.args.row.now.versions)))
              c.in-Some-2.is c.in_ok-put.ensures.merge;
          filled = filled_before new.versions old.versions c.in-Some-2.put.1 back c.requires.of_key.1;
        },
        without_one new.versions c.in-Some-2.put.1 ∙ back,
      ),
    )

-- none does: what is there stayed
pub returns-in-None-clause-ok : goal.returns-in-None-clause-ok
returns-in-None-clause-ok c =
    let row = c.args.row.now in
    subst (λ (k : Siblings). IfOk c.merge_over.result (IsAbsorbed k c.merge_over.new.kept
    (λ (vs : List VersionParts). record { key = row.key; versions = vs }) (Some k) row))
    (subst (λ o. IfNone o (c.put_beside.new.self ≡ c.args.kept.now)) c.in-None.is c.in_ok-put.ensures.same)
    c.merge_over.ensures.ok
