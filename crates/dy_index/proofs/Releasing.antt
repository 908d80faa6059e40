-- A part of the index after a release.
use Rattle.std.proofs.Common.{◌≡◌, ◌≢◌, ℕ, ◌+◌, Bool, true, false, cond, ◌&&◌, not, List, []}
use Rattle.std.proofs.Common.{◌∷◌, ◌++◌, map, length, take, drop, set, get_or, ◌<◌}
use Rattle.std.proofs.Common.{None, Some, refl, sym, ap, ◌∙◌, subst, ⊎_elim, arith}
use Rattle.std.specs.List.{AllByRecursion}
use Rattle.std.specs.List.Sorted.{IsStrictlySortedBy}
use Rattle.std.specs.declared.cmp.Ordering.TheVariants.{Less}
use Rattle.std.proofs.lemmas.Bool.{cases_Bool, and_parts, and_from, and_left, and_right}
use Rattle.std.proofs.lemmas.Bool.{true≢false, not-true, not_from_false}
use Rattle.std.proofs.lemmas.List.Elements.{All-contains}
use Rattle.std.proofs.lemmas.List.{take_more, take_more_set, drop-set-lt, map-append, get_or-drop}
use Rattle.std.proofs.lemmas.Grind.{drop_more_same}
use Rattle.dy_dots.specs.Dots.{same_dot}
use Rattle.dy_dots.specs.declared.dots.Dot.{Dot}
use Rattle.dy_siblings.specs.Siblings.{IsSameRow, same_key, without}
use Rattle.dy_siblings.specs.declared.versions.Version.{Version}
use Rattle.dy_core.specs.Worlds.{World, row_at}
use Rattle.dy_core.specs.Steps.{same_place, after_release}
use Rattle.dy_core.specs.inside.Meanings.{is_at, row_in}
use Rattle.dy_core.specs.Orders.{holding_cmp}
use Rattle.dy_core.specs.declared.holdings.Holding.{Holding}
use Rattle.dy_siblings.proofs.Members.{filter_in, filter_from, map_from}
use Rattle.dy_siblings.proofs.SameKeys.{same_key_is, same_key_self}
use Rattle.dy_core.proofs.Standing.{stands_from, stands_in, place_is}
use Rattle.dy_core.proofs.Merging.{same_row_on}
use Rattle.dy_core.proofs.Keeping.{all_from}
use Rattle.dy_core.proofs.Held.{spot_from}
use Rattle.dy_index.specs.declared.parts.KeyPart.{KeyPart}
use Rattle.dy_index.specs.Lists.{list_at}
use Rattle.dy_index.specs.inside.Held.{released}
use Rattle.dy_index.specs.Indexes.{made_in, places_in, part_at, AreOfKey, IsPart, IsIndex}
use Rattle.dy_index.proofs.Indexing.{index_written}

-- ---- one release, in the world

-- the row at the place, without the dot
release_here : (w : World) (holder home : ℕ) (key : List ℕ) (d : Dot) (p o : ℕ)
    (vs : List Version) → IsSameRow vs (row_at w p o key) →
    same_place holder home key p o key ≡ true →
    IsSameRow (without vs d) (row_at (after_release w holder home key d) p o key)
release_here w holder home key d p o vs same at v = (
  (λ inside.
      let f = filter_from (λ u. not (same_dot u.dot d)) vs v inside in
      let s = stands_from w p o key v ((same v).0 f.0) in
      stands_in (after_release w holder home key d) p o key v
      (record {
        made = s.made;
        key_is = s.key_is;
        is_held =
            and_from (w.holdings p o key v.dot)
            (not (same_place holder home key p o key && same_dot v.dot d)) s.is_held
            (not_from_false (same_place holder home key p o key && same_dot v.dot d)
            (and_right (same_place holder home key p o key) (same_dot v.dot d)
            (not-true (same_dot v.dot d) f.1)));
      })),
  (λ inside.
      let s = stands_from (after_release w holder home key d) p o key v inside in
      let parts = and_parts (w.holdings p o key v.dot)
      (not (same_place holder home key p o key && same_dot v.dot d)) s.is_held in
      filter_in (λ u. not (same_dot u.dot d)) vs v
      ((same v).1 (stands_in w p o key v
      (record { made = s.made; key_is = s.key_is; is_held = parts.0 })))
      (ap (λ b. not (b && same_dot v.dot d)) (sym at) ∙ parts.1)),
)

-- no other row changes
release_elsewhere : (w : World) (holder home : ℕ) (key : List ℕ) (d : Dot) (p o : ℕ) (k : List ℕ) →
    same_place holder home key p o k ≡ false →
    IsSameRow (row_at w p o k) (row_at (after_release w holder home key d) p o k)
release_elsewhere w holder home key d p o k not_at v = (
  (λ inside.
      let s = stands_from w p o k v inside in
      stands_in (after_release w holder home key d) p o k v
      (record {
        made = s.made;
        key_is = s.key_is;
        is_held =
            and_from (w.holdings p o k v.dot)
            (not (same_place holder home key p o k && same_dot v.dot d)) s.is_held
            (not_from_false (same_place holder home key p o k && same_dot v.dot d)
            (and_left (same_place holder home key p o k) (same_dot v.dot d) not_at));
      })),
  (λ inside.
      let s = stands_from (after_release w holder home key d) p o k v inside in
      stands_in w p o k v
      (record {
        made = s.made;
        key_is = s.key_is;
        is_held = (and_parts (w.holdings p o k v.dot)
            (not (same_place holder home key p o k && same_dot v.dot d)) s.is_held).0;
      })),
)

-- ---- one release, in the part of its key

module _ (holder home : ℕ) (key : List ℕ) (d : Dot) where
  row_in-released : (hs : List Holding) (p o : ℕ) →
      row_in (map (released holder home key d) hs) p o key ≡ cond
      (same_place holder home key p o key) (without (row_in hs p o key) d) (row_in hs p o key)
  row_in-released [] p o = go (same_place holder home key p o key)
    where
      go : (b : Bool) → [] ≡ cond b (without [] d) []
      go true = refl
      go false = refl
  row_in-released (h ∷ hs) p o = go (is_at p o key h) refl (row_in-released hs p o)
    where
      go : (b : Bool) → is_at p o key h ≡ b →
          row_in (map (released holder home key d) hs) p o key ≡ cond
          (same_place holder home key p o key) (without (row_in hs p o key) d)
          (row_in hs p o key) →
          cond b (released holder home key d h).row.versions
          (row_in (map (released holder home key d) hs) p o key)
          ≡ cond (same_place holder home key p o key)
          (without (cond b h.row.versions (row_in hs p o key)) d)
          (cond b h.row.versions (row_in hs p o key))
      go true at rest =
          let s = spot_from p o key h at in
          (λ i. cond (same_place holder home key (s.holder_is i) (s.home_is i) (s.key_is i))
          (without h.row.versions d) h.row.versions)
      go false at rest = rest

  below_released : (h : Holding) (hs : List Holding) →
      AllByRecursion (λ y. holding_cmp h y ≡ Less) hs →
      AllByRecursion (λ y. holding_cmp (released holder home key d h) y ≡ Less)
      (map (released holder home key d) hs)
  below_released h [] below = tt
  below_released h (x ∷ hs) below = (below.0, below_released h hs below.1)

  sorted_released : (hs : List Holding) → IsStrictlySortedBy holding_cmp hs →
      IsStrictlySortedBy holding_cmp (map (released holder home key d) hs)
  unfolding IsStrictlySortedBy
  sorted_released [] sorted = tt
  sorted_released (h ∷ hs) sorted = (below_released h hs sorted.0, sorted_released hs sorted.1)

  pub release_own : (w : World) (made : ℕ → List Version) (places : List Holding) →
      AreOfKey w key made places →
      AreOfKey (after_release w holder home key d) key made
      (map (released holder home key d) places)
  release_own w made places are =
      record {
        made_are = are.made_are;
        rows_are = λ p o.
            subst (λ vs. IsSameRow vs (row_at (after_release w holder home key d) p o key))
            (sym (row_in-released places p o))
            (rows p o (same_place holder home key p o key) refl);
        in_order = sorted_released places are.in_order;
        of_key = all_from (λ h. h.row.key ≡ key) (map (released holder home key d) places)
            (λ h inside.
            let m = map_from (released holder home key d) places h inside in
            ap (λ x. x.row.key) (sym m.gives)
            ∙ All-contains (λ x. x.row.key ≡ key) places m.item are.of_key m.in_list);
      }
    where
      rows : (p o : ℕ) (b : Bool) → same_place holder home key p o key ≡ b →
          IsSameRow (cond b (without (row_in places p o key) d) (row_in places p o key))
          (row_at (after_release w holder home key d) p o key)
      rows p o true at = release_here w holder home key d p o (row_in places p o key)
          (are.rows_are p o) at
      rows p o false not_at =
          same_row_on (row_in places p o key) (row_at w p o key)
          (row_at (after_release w holder home key d) p o key)
          (are.rows_are p o) (release_elsewhere w holder home key d p o key not_at)

  not_key : (p o : ℕ) (k : List ℕ) → k ≢ key → same_place holder home key p o k ≡ false
  not_key p o k apart =
      ⊎_elim (λ yes. absurd (apart (place_is holder home key p o k yes).key_is)) (λ no. no)
      (cases_Bool (same_place holder home key p o k))

  pub release_other : (w : World) (k : List ℕ) → k ≢ key →
      (made : ℕ → List Version) (places : List Holding) → AreOfKey w k made places →
      AreOfKey (after_release w holder home key d) k made places
  release_other w k apart made places are =
      record {
        made_are = are.made_are;
        rows_are = λ p o. same_row_on (row_in places p o k) (row_at w p o k)
            (row_at (after_release w holder home key d) p o k)
            (are.rows_are p o) (release_elsewhere w holder home key d p o k (not_key p o k apart));
        in_order = are.in_order;
        of_key = are.of_key;
      }

  -- the part written back without the dot
  pub release_written : (w : World) (es fs : List (List ℕ × KeyPart)) (old new : KeyPart) →
      part_at es key ≡ Some old → new.made.items ≡ old.made.items →
      new.places.items ≡ map (released holder home key d) old.places.items →
      ((q : List ℕ) → part_at fs q ≡ cond (same_key key q) (Some new)
      (part_at es q)) →
      IsIndex w es → IsIndex (after_release w holder home key d) fs
  release_written w es fs old new there made_is placed written index =
      index_written w (after_release w holder home key d) es fs key new written
      (subst (λ hs. AreOfKey (after_release w holder home key d) key (made_in (Some new)) hs)
      (sym placed)
      (record {
        made_are = λ node. ap (λ xs. list_at xs node) made_is ∙ own.made_are node;
        rows_are = own.rows_are;
        in_order = own.in_order;
        of_key = own.of_key;
      }))
      (λ q apart made places are. release_other w q apart made places are) index
    where
      own : AreOfKey (after_release w holder home key d) key (made_in (Some old))
          (map (released holder home key d) old.places.items)
      own = release_own w (made_in (Some old)) old.places.items
          (subst (IsPart w key) there (index key))

  -- nothing is known of the key
  pub release_none : (w : World) (es : List (List ℕ × KeyPart)) → part_at es key ≡ None →
      IsIndex w es → IsIndex (after_release w holder home key d) es
  release_none w es none index q = go (same_key key q) refl
    where
      go : (b : Bool) → same_key key q ≡ b →
          IsPart (after_release w holder home key d) q (part_at es q)
      go true at =
          let same : key ≡ q = same_key_is key q at in
          subst (λ k. IsPart (after_release w holder home key d) k (part_at es k)) same
          (subst (IsPart (after_release w holder home key d) key) (sym none)
          (release_own w (made_in None) [] (subst (IsPart w key) none (index key))))
      go false at =
          let apart : q ≢ key =
          λ same. true≢false (sym (same_key_self key) ∙ (ap (same_key key) (sym same) ∙ at)) in
          release_other w q apart (made_in (part_at es q)) (places_in (part_at es q)) (index q)

-- ---- a loop that writes

-- the turn at a place
pub turn_done : {X : Type 0} (f : X → X) (xs old : List X) (i : ℕ) (x y : X) → i < length xs →
    length xs ≡ length old → x ≡ get_or xs i x → y ≡ f x →
    take i xs ≡ map f (take i old) → drop i xs ≡ drop i old →
    take (i + 1) (set xs i y) ≡ map f (take (i + 1) old)
turn_done {X = X} f xs old i x y lt same is gives done left =
    take_more_set xs i y lt
    ∙ ((λ k. done k ++ gives k ∷ [])
    ∙ (ap (λ z. map f (take i old) ++ f z ∷ []) (is ∙ here)
    ∙ (sym (map-append f (take i old) (get_or old i x ∷ []))
    ∙ ap (map f) (sym (take_more old i x (omega (arith, lt, same)))))))
  where
    at_front : (zs : List X) → get_or (drop i zs) 0 x ≡ get_or zs i x
    at_front zs = let plain : i + 0 ≡ i = omega arith in
        get_or-drop i zs 0 x ∙ ap (λ k. get_or zs k x) plain

    here : get_or xs i x ≡ get_or old i x
    here = sym (at_front xs) ∙ (ap (λ zs. get_or zs 0 x) left ∙ at_front old)

pub turn_left : {X : Type 0} (xs old : List X) (i : ℕ) (y : X) → drop i xs ≡ drop i old →
    drop (i + 1) (set xs i y) ≡ drop (i + 1) old
turn_left xs old i y left = drop-set-lt (i + 1) xs i y (omega arith) ∙ drop_more_same xs old i left
