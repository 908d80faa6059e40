-- An index of which a part is written, and a part that is as good as another.
use Rattle.std.proofs.Common.{◌≡◌, ◌≢◌, ℕ, Bool, true, false, cond, eqb, List, [], ◌∷◌}
use Rattle.std.proofs.Common.{◌++◌, Option, None, Some, refl, sym, ap, ◌∙◌, subst}
use Rattle.std.proofs.Common.{⊎_elim}
use Rattle.std.specs.Option.{is_some}
use Rattle.std.proofs.lemmas.Bool.{cases_Bool, true≢false, eqb-true, eq-eqb}
use Rattle.dy_siblings.specs.Siblings.{same_key}
use Rattle.dy_siblings.specs.declared.versions.Version.{Version}
use Rattle.dy_siblings.proofs.SameKeys.{same_key_is, same_key_self}
use Rattle.dy_core.specs.Worlds.{World}
use Rattle.dy_core.specs.declared.holdings.Holding.{Holding}
use Rattle.dy_index.specs.declared.parts.KeyPart.{KeyPart}
use Rattle.dy_index.specs.Lists.{list_at, HaveSameMade}
use Rattle.dy_index.specs.Indexes.{made_by, made_in, places_in, part_at, AreOfKey, IsPart}
use Rattle.dy_index.specs.Indexes.{IsIndex}
use Rattle.dy_index.proofs.Parting.{part_or_none}

pub none_is : {X : Type 0} (o : Option X) → is_some o ≡ false → o ≡ None
none_is None e = refl
none_is (Some x) e = cc

-- a part written at a key, where the other keys keep theirs
pub index_written : (w x : World) (es fs : List (List ℕ × KeyPart)) (key : List ℕ) (p : KeyPart) →
    ((q : List ℕ) → part_at fs q ≡ cond (same_key key q) (Some p) (part_at es q)) →
    IsPart x key (Some p) →
    ((q : List ℕ) → q ≢ key → (made : ℕ → List Version) (places : List Holding) →
    AreOfKey w q made places → AreOfKey x q made places) →
    IsIndex w es → IsIndex x fs
index_written w x es fs key p written here others index q =
    go (same_key key q) refl
  where
    go : (b : Bool) → same_key key q ≡ b → IsPart x q (part_at fs q)
    go true at =
        let same : key ≡ q = same_key_is key q at in
        subst (IsPart x q) (sym (written q ∙ ap (λ b. cond b (Some p) (part_at es q)) at))
        (subst (λ k. IsPart x k (Some p)) same here)
    go false at =
        let apart : q ≢ key =
        λ same. true≢false (sym (same_key_self key) ∙ (ap (same_key key) (sym same) ∙ at)) in
        subst (IsPart x q) (sym (written q ∙ ap (λ b. cond b (Some p) (part_at es q)) at))
        (others q apart (made_in (part_at es q)) (places_in (part_at es q)) (index q))

-- a part without anything is as good as none
pub index_with_empty : (es fs : List (List ℕ × KeyPart)) (key : List ℕ) (p : KeyPart) →
    part_at es key ≡ None → p.made.items ≡ [] → p.places.items ≡ [] →
    ((q : List ℕ) → part_at fs q ≡ cond (same_key key q) (Some p) (part_at es q)) →
    (w : World) → IsIndex w es → IsIndex w fs
index_with_empty es fs key p none no_made no_places written w index =
    index_written w w es fs key p written
    (part_or_none w key None p no_made no_places (subst (IsPart w key) none (index key)))
    (λ q apart made places are. are) index

-- a part whose lists are the same
pub part_renamed : (w : World) (key : List ℕ) (old new : KeyPart) →
    HaveSameMade new.made.items old.made.items → new.places.items ≡ old.places.items →
    IsPart w key (Some old) → IsPart w key (Some new)
part_renamed w key old new same placed are =
    subst (λ hs. AreOfKey w key (made_by new) hs) (sym placed)
    (record {
      made_are = λ node. same node ∙ are.made_are node;
      rows_are = are.rows_are;
      in_order = are.in_order;
      of_key = are.of_key;
    })

-- a version that was added and removed again
pub removed_again : (old added removed : List (List Version)) (v : Version) (node : ℕ) →
    v.dot.node ≡ node → list_at added v.dot.node ≡ list_at old v.dot.node ++ v ∷ [] →
    ((n : ℕ) → n ≢ v.dot.node → list_at added n ≡ list_at old n) →
    ((vs : List Version) (u : Version) → list_at added node ≡ vs ++ u ∷ [] →
    list_at removed node ≡ vs) → ((n : ℕ) → n ≢ node → list_at removed n ≡ list_at added n) →
    HaveSameMade removed old
removed_again old added removed v node is own others gone others_gone n =
    ⊎_elim
    (λ yes.
    let same = eqb-true n node yes in
    ap (list_at removed) same
    ∙ (gone (list_at old node) v (subst (λ k. list_at added k ≡ list_at old k ++ v ∷ []) is own)
    ∙ ap (list_at old) (sym same)))
    (λ no.
    let apart : n ≢ node = λ same. true≢false (sym (eq-eqb n node same) ∙ no) in
    others_gone n apart ∙ others n (λ same. apart (same ∙ is)))
    (cases_Bool (eqb n node))
