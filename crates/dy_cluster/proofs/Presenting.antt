-- What is found of the rows that are held is what is present of them.
use Rattle.std.proofs.Common.{◌≡◌, ℕ, Bool, true, false, cond, ◌&&◌, ◌||◌, not, List, [], ◌∷◌, Option, None, Some, option_map, unwrap_or, refl, sym, ap, ◌∙◌, subst}
use Rattle.std.specs.Ordering.{nat_cmp, eq_by_cmp, is_eq, ordering_then}
use Rattle.std.specs.Cmp.{IsTotalOrder, then_total, on_total, tied_itself}
use Rattle.std.specs.Cmp.Lexicographic.{slice_cmp, nat_list_cmp_total}
use Rattle.std.specs.FinMap as maps
use Rattle.std.specs.FinMap.{IsAntisymmetric}
use Rattle.std.specs.FinSet as set
use Rattle.std.specs.List.{Contains, filter, flat_map}
use Rattle.std.proofs.lemmas.Bool.{true≢false}
use Rattle.std.proofs.lemmas.List.Folds.{list_any-append}
use Rattle.std.proofs.lemmas.Map.Lookups.{exact_bytes}
use Rattle.std.proofs.lemmas.Map.Views.{tells_apart}
use Rattle.dy_dots.specs.Dots.{DotSet, dot_cmp}
use Rattle.dy_dots.specs.declared.dots.Dot.{Dot}
use Rattle.dy_dots.proofs.Sets.{dot_antisymmetric, dot_total, in_union}
use Rattle.dy_siblings.specs.Versions.{present}
use Rattle.dy_siblings.specs.Siblings.{is_past, newest, same_key}
use Rattle.dy_siblings.specs.declared.versions.Version.{Version}
use Rattle.dy_siblings.proofs.Members.{filter_from, filter_in}
use Rattle.dy_siblings.proofs.SameKeys.{same_key_is, same_key_self}
use Rattle.dy_core.specs.Orders.{key_cmp}
use Rattle.dy_core.specs.declared.holdings.Holding.{Holding}
use Rattle.dy_core.proofs.Held.{both_tie, keys_tie}
use Rattle.dy_cluster.specs.PresentValues.{ArePresent, IsPresent, present_cmp, versions_held}
use Rattle.dy_cluster.specs.declared.values.PresentValue.{PresentValue}
use Rattle.dy_index.specs.Lists.{IsInOrder}
use Rattle.dy_cluster.specs.inside.Pasts.{KeyPasts, found_in, values_in, past_at, with_all_pasts, with_past, with_row_pasts}
use Rattle.dy_cluster.proofs.Gathered.{filter_map_from, filter_map_in, flat_map_from, flat_map_in}

-- keys that tie are the same
tie_is : (q k : List ℕ) → eq_by_cmp (slice_cmp nat_cmp) q k ≡ same_key k q
tie_is q k = go (eq_by_cmp (slice_cmp nat_cmp) q k) refl (same_key k q) refl
  where
    go : (b : Bool) → eq_by_cmp (slice_cmp nat_cmp) q k ≡ b → (s : Bool) → same_key k q ≡ s → b ≡ s
    go true tied true same = refl
    go false tied false same = refl
    go true tied false same =
        absurd (true≢false (sym (same_key_self k) ∙ ap (same_key k) (sym (tells_apart exact_bytes q k tied)) ∙ same))
    go false tied true same =
        absurd (true≢false (sym (self q) ∙ ap (eq_by_cmp (slice_cmp nat_cmp) q) (sym (same_key_is k q same)) ∙ tied))
      where
        self : (q : List ℕ) → eq_by_cmp (slice_cmp nat_cmp) q q ≡ true
        self q = ap is_eq (tied_itself nat_list_cmp_total q)

or_none : (b s : Bool) → b ≡ (b || (s && false))
or_none true s = refl
or_none false true = refl
or_none false false = refl

or_later : (c s a b : Bool) → ((c || (s && a)) || (s && b)) ≡ (c || (s && (a || b)))
or_later true s a b = refl
or_later false true a b = refl
or_later false false a b = refl

-- one more past of a key is in the past of that key alone
past_step : (p : KeyPasts) (k : List ℕ) (s : DotSet) (key : List ℕ) (d : Dot) →
    set.contains (past_at (with_past p k s) key) d
    ≡ (set.contains (past_at p key) d || (same_key k key && set.contains s d))
past_step p k s key d =
    ap (λ o. set.contains (unwrap_or o set.empty) d)
    (maps.get-insert nat_list_cmp_total p k (set.union (past_at p k) s) key)
    ∙ ap (λ b. set.contains (unwrap_or (cond b (Some (set.union (past_at p k) s)) (maps.get p key)) set.empty) d)
    (tie_is key k)
    ∙ go (same_key k key) refl
  where
    go : (b : Bool) → same_key k key ≡ b →
        set.contains (unwrap_or (cond b (Some (set.union (past_at p k) s)) (maps.get p key)) set.empty) d
        ≡ (set.contains (past_at p key) d || (b && set.contains s d))
    go true same = in_union (past_at p k) s d
        ∙ ap (λ q. set.contains (past_at p q) d || set.contains s d) (same_key_is k key same)
    go false same = or_none (set.contains (past_at p key) d) false

past_row : (p : KeyPasts) (k : List ℕ) (vs : List Version) (key : List ℕ) (d : Dot) →
    set.contains (past_at (with_row_pasts p k vs) key) d
    ≡ (set.contains (past_at p key) d || (same_key k key && is_past vs d))
past_row p k [] key d = or_none (set.contains (past_at p key) d) (same_key k key)
past_row p k (v ∷ vs) key d =
    past_row (with_past p k v.past) k vs key d
    ∙ ap (λ b. b || (same_key k key && is_past vs d)) (past_step p k v.past key d)
    ∙ or_later (set.contains (past_at p key) d) (same_key k key) (set.contains v.past d) (is_past vs d)

-- what one more row adds to the versions of the key
held_row : (h : Holding) (hs : List Holding) (key : List ℕ) (d : Dot) →
    is_past (versions_held (h ∷ hs) key) d
    ≡ ((same_key h.row.key key && is_past h.row.versions d) || is_past (versions_held hs key) d)
held_row h hs key d = go (same_key h.row.key key)
  where
    go : (b : Bool) →
        is_past (flat_map (λ (g : Holding). g.row.versions) (cond b (h ∷ filter (λ g. same_key g.row.key key) hs) (filter (λ g. same_key g.row.key key) hs))) d
        ≡ ((b && is_past h.row.versions d) || is_past (versions_held hs key) d)
    go true = list_any-append (λ v. set.contains v.past d) h.row.versions (versions_held hs key)
    go false = refl

or_assoc : (a b c : Bool) → ((a || b) || c) ≡ (a || (b || c))
or_assoc true b c = refl
or_assoc false b c = refl

past_all : (p : KeyPasts) (held : List Holding) (key : List ℕ) (d : Dot) →
    set.contains (past_at (with_all_pasts p held) key) d
    ≡ (set.contains (past_at p key) d || is_past (versions_held held key) d)
past_all p [] key d = or_none (set.contains (past_at p key) d) false
past_all p (h ∷ hs) key d =
    past_all (with_row_pasts p h.row.key h.row.versions) hs key d
    ∙ ap (λ b. b || is_past (versions_held hs key) d) (past_row p h.row.key h.row.versions key d)
    ∙ or_assoc (set.contains (past_at p key) d) (same_key h.row.key key && is_past h.row.versions d) (is_past (versions_held hs key) d)
    ∙ ap (λ b. set.contains (past_at p key) d || b) (sym (held_row h hs key d))

-- the past of a key is that of all versions that are held of it
pub past_is : (held : List Holding) (key : List ℕ) (d : Dot) →
    set.contains (past_at (with_all_pasts maps.empty held) key) d ≡ is_past (versions_held held key) d
past_is held key d =
    past_all maps.empty held key d
    ∙ ap (λ b. b || is_past (versions_held held key) d)
    (ap (λ (o : Option DotSet). set.contains (unwrap_or o set.empty) d) (maps.get-empty (slice_cmp nat_cmp) key) ∙ set.contains-empty dot_cmp d)

-- what a version that is found says
record IsFound (p : KeyPasts) (key : List ℕ) (v : Version) (x : PresentValue) : Type 0 where
  newest : set.contains (past_at p key) v.dot ≡ false
  key_is : key ≡ x.key
  dot_is : v.dot ≡ x.dot
  value_is : v.value ≡ Some x.value

found_is : (p : KeyPasts) (key : List ℕ) (v : Version) (x : PresentValue) →
    found_in p key v ≡ Some x → IsFound p key v x
found_is p key v x e = go (set.contains (past_at p key) v.dot) refl v.value refl e
  where
    go : (b : Bool) → set.contains (past_at p key) v.dot ≡ b → (o : Option (List ℕ)) → v.value ≡ o →
        cond b None (option_map (λ value. record { key = key; dot = v.dot; value = value }) o) ≡ Some x →
        IsFound p key v x
    go true past o value e = cc
    go false past None value e = cc
    go false past (Some bytes) value e =
        let same : record { key = key; dot = v.dot; value = bytes } ≡ x = cc in
        record {
          newest = past;
          key_is = ap (λ (y : PresentValue). y.key) same;
          dot_is = ap (λ (y : PresentValue). y.dot) same;
          value_is = value ∙ ap (λ (y : PresentValue). Some y.value) same;
        }

is_found : (p : KeyPasts) (key : List ℕ) (v : Version) (x : PresentValue) → IsFound p key v x →
    found_in p key v ≡ Some x
is_found p key v x f =
    ap (λ b. cond b None (option_map (λ value. record { key = key; dot = v.dot; value = value }) v.value)) f.newest
    ∙ ap (λ o. option_map (λ value. record { key = key; dot = v.dot; value = value }) o) f.value_is
    ∙ (λ i. Some (record { key = f.key_is i; dot = f.dot_is i; value = x.value }))

module _ (held : List Holding) (p : KeyPasts)
    (past : (key : List ℕ) (d : Dot) → set.contains (past_at p key) d ≡ is_past (versions_held held key) d) where
  found_present : (x : PresentValue) →
      Contains (flat_map (λ h. values_in p h.row.key h.row.versions) held) x → IsPresent held x
  found_present x there =
      let h = flat_map_from (λ (h : Holding). values_in p h.row.key h.row.versions) held x there in
      let v = filter_map_from (found_in p h.item.row.key) h.item.row.versions x h.gives in
      let f = found_is p h.item.row.key v.item x v.gives in
      let vs = versions_held held x.key in
      let same : same_key h.item.row.key x.key ≡ true = subst (λ k. same_key h.item.row.key k ≡ true) f.key_is (same_key_self h.item.row.key) in
      let in_held : Contains vs v.item =
      flat_map_in (λ (g : Holding). g.row.versions) (filter (λ g. same_key g.row.key x.key) held) h.item v.item
      (filter_in (λ (g : Holding). same_key g.row.key x.key) held h.item h.in_list same) v.in_list in
      let is_newest : is_past vs v.item.dot ≡ false =
      sym (past x.key v.item.dot) ∙ subst (λ k. set.contains (past_at p k) v.item.dot ≡ false) f.key_is f.newest in
      filter_map_in present (newest vs) v.item (x.dot, x.value)
      (filter_in (λ u. not (is_past vs u.dot)) vs v.item in_held (ap not is_newest))
      (λ i. option_map {U = Dot × List ℕ} (λ value. (f.dot_is i, value)) (f.value_is i))

  present_found : (x : PresentValue) → IsPresent held x →
      Contains (flat_map (λ h. values_in p h.row.key h.row.versions) held) x
  present_found x there =
      let vs = versions_held held x.key in
      let v = filter_map_from present (newest vs) (x.dot, x.value) there in
      let kept = filter_from (λ u. not (is_past vs u.dot)) vs v.item v.in_list in
      let h = flat_map_from (λ (g : Holding). g.row.versions) (filter (λ g. same_key g.row.key x.key) held) v.item kept.0 in
      let of_key = filter_from (λ (g : Holding). same_key g.row.key x.key) held h.item h.in_list in
      let key_is = same_key_is h.item.row.key x.key of_key.1 in
      let is_newest : set.contains (past_at p h.item.row.key) v.item.dot ≡ false =
      subst (λ k. set.contains (past_at p k) v.item.dot ≡ false) (sym key_is)
      (past x.key v.item.dot ∙ not_is (is_past vs v.item.dot) kept.1) in
      let parts = present_is v.item x v.gives in
      flat_map_in (λ (g : Holding). values_in p g.row.key g.row.versions) held h.item x of_key.0
      (filter_map_in (found_in p h.item.row.key) h.item.row.versions v.item x h.gives
      (is_found p h.item.row.key v.item x (record {
        newest = is_newest;
        key_is = key_is;
        dot_is = parts.0;
        value_is = parts.1;
      })))
    where
      not_is : (b : Bool) → not b ≡ true → b ≡ false
      not_is true e = cc
      not_is false e = refl

      present_is : (v : Version) (x : PresentValue) → present v ≡ Some (x.dot, x.value) →
          (v.dot ≡ x.dot) × (v.value ≡ Some x.value)
      present_is v x e = go v.value refl e
        where
          go : (o : Option (List ℕ)) → v.value ≡ o → option_map {U = Dot × List ℕ} (λ value. (v.dot, value)) o ≡ Some (x.dot, x.value) →
              (v.dot ≡ x.dot) × (v.value ≡ Some x.value)
          go None is e = cc
          go (Some bytes) is e =
              let same : (v.dot, bytes) ≡ (x.dot, x.value) = cc in
              (ap (λ (q : Dot × List ℕ). q.0) same, is ∙ ap (λ (q : Dot × List ℕ). Some q.1) same)

pub present_total : IsTotalOrder present_cmp
present_total =
    then_total (on_total (λ (x : PresentValue). x.key) nat_list_cmp_total)
    (then_total (on_total (λ (x : PresentValue). x.dot) dot_total) (on_total (λ (x : PresentValue). x.value) nat_list_cmp_total))

presents_tie : IsAntisymmetric present_cmp
presents_tie a b e =
    let outer = both_tie (key_cmp a.key b.key) (ordering_then (dot_cmp a.dot b.dot) (key_cmp a.value b.value)) e in
    let inner = both_tie (dot_cmp a.dot b.dot) (key_cmp a.value b.value) outer.1 in
    let key_is = keys_tie a.key b.key outer.0 in
    let dot_is = dot_antisymmetric a.dot b.dot inner.0 in
    let value_is = keys_tie a.value b.value inner.1 in
    λ i. record { key = key_is i; dot = dot_is i; value = value_is i }

-- in order they are what is present
pub are_present : (held : List Holding) (p : KeyPasts) (found list : List PresentValue) →
    p ≡ with_all_pasts maps.empty held →
    found ≡ flat_map (λ h. values_in p h.row.key h.row.versions) held →
    IsInOrder present_cmp found list → ArePresent held list
are_present held p found list pasts found_are order =
    let past = λ (key : List ℕ) (d : Dot). ap (λ q. set.contains (past_at q key) d) pasts ∙ past_is held key d in
    record {
      are_all = λ x. (
        (λ there. found_present held p past x (subst (λ xs. Contains xs x) found_are (order.is_item x there))),
        (λ is. let t = order.tied x (subst (λ xs. Contains xs x) (sym found_are) (present_found held p past x is)) in
            subst (Contains list) (sym (presents_tie x t.0 t.2)) t.1),
      );
      are_ordered = order.in_order;
    }
