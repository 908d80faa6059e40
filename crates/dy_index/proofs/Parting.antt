-- Which keys have a part of the index.
use Rattle.std.proofs.Common.{◌≡◌, ℕ, List, [], ◌∷◌, Option, None, Some, unwrap_or}
use Rattle.std.proofs.Common.{refl, sym, ap, ◌∙◌, subst}
use Rattle.std.specs.List.{All, Contains}
use Rattle.std.specs.List.Sorted.{IsStrictlySortedBy}
use Rattle.std.proofs.lemmas.List.Elements.{All-contains}
use Rattle.dy_siblings.specs.declared.versions.Version.{Version}
use Rattle.dy_siblings.proofs.Members.{not_in_nil, in_head}
use Rattle.dy_siblings.specs.Siblings.{IsSameRow}
use Rattle.dy_core.specs.Worlds.{World, AreMadeOf, row_at}
use Rattle.dy_core.specs.Orders.{holding_cmp}
use Rattle.dy_core.specs.inside.Meanings.{row_in}
use Rattle.dy_index.specs.Lists.{list_at}
use Rattle.dy_index.specs.declared.parts.KeyPart.{KeyPart}
use Rattle.dy_index.specs.Indexes.{IsPart}
use Rattle.dy_index.proofs.Making.{in_made, by_from}

-- where nothing is known of the key, a row whose versions were made has none
pub empty_where_unknown : (w : World) (key : List ℕ) (row : List Version) → AreMadeOf w key row →
    IsPart w key None → row ≡ []
empty_where_unknown w key [] made part = refl
empty_where_unknown w key (v ∷ vs) made part =
    let m = All-contains (λ (u : Version). (u.key ≡ key) × Contains w.versions u) (v ∷ vs) v made
    (in_head v vs) in
    absurd (not_in_nil v (subst (λ xs. Contains xs v) (sym (part.made_are v.dot.node))
    (in_made w.versions key v.dot.node v m.1 (by_from v v.dot.node key refl m.0))))

-- a part without anything is as good as none
pub part_or_none : (w : World) (key : List ℕ) (o : Option KeyPart) (p : KeyPart) →
    p.made.items ≡ [] → p.places.items ≡ [] → IsPart w key o → IsPart w key (Some (unwrap_or o p))
part_or_none w key (Some q) p no_made no_places are = are
part_or_none w key None p no_made no_places are = record {
  made_are = λ node. ap (λ xs. list_at xs node) no_made ∙ are.made_are node;
  rows_are = λ holder home. subst
      (λ hs. IsSameRow (row_in hs holder home key) (row_at w holder home key)) (sym no_places)
      (are.rows_are holder home);
  in_order = subst (λ hs. IsStrictlySortedBy holding_cmp hs) (sym no_places) are.in_order;
  of_key = subst (λ hs. All (λ h. h.row.key ≡ key) hs) (sym no_places) are.of_key;
}
