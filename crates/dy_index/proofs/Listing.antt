-- What is held, listed from a book's whole index.
use Rattle.std.proofs.Common.{◌≡◌, ℕ, ◌<◌, Bool, true, false, cond, not, ◌⊎◌, List, [], ◌∷◌}
use Rattle.std.proofs.Common.{◌++◌, length, Option, None, Some, refl, sym, ap, ◌∙◌}
use Rattle.std.proofs.Common.{subst, inl, inr, ⊎_elim, arith}
use Rattle.std.specs.List.{All, Contains}
use Rattle.std.proofs.lemmas.Bool.{cond_both, cond-true, true≢false}
use Rattle.std.proofs.lemmas.List.Elements.{All-contains, Contains-append_cases}
use Rattle.std.proofs.lemmas.List.Elements.{Contains-append_left, Contains-append_right}
use Rattle.dy_siblings.specs.Siblings.{IsSameRow}
use Rattle.dy_siblings.specs.declared.versions.Version.{Version}
use Rattle.dy_core.specs.Worlds.{World, row_at}
use Rattle.dy_core.specs.Listings.{ListsHoldings}
use Rattle.dy_core.specs.inside.Meanings.{is_nothing, row_in}
use Rattle.dy_core.specs.Orders.{holding_cmp}
use Rattle.dy_core.specs.declared.holdings.Holding.{Holding}
use Rattle.dy_siblings.proofs.Members.{not_in_nil, in_head, in_tail, in_cases}
use Rattle.dy_core.proofs.Held.{Spot, at_from, keys_tie, spots_tie, row_in-of, row_in-from}
use Rattle.dy_core.proofs.Keeping.{all_from}
use Rattle.dy_index.specs.Lists.{IsInOrder}
use Rattle.dy_index.specs.inside.Entries.{AreByKey, entry_cmp}
use Rattle.dy_index.specs.inside.Held.{is_some, listed_from}
use Rattle.dy_index.specs.Indexes.{IsIndex, IsPart, part_at, places_in}
use Rattle.dy_index.specs.inside.Listed.{held_in_all}
use Rattle.dy_index.specs.declared.parts.KeyPart.{KeyPart}

-- an item of an entry of the index that has a version
record IsListed (es : List (List ℕ × KeyPart)) (h : Holding) : Type 0 where
  pub entry : List ℕ × KeyPart
  pub in_list : Contains es entry
  pub in_places : Contains entry.1.places.items h
  pub has_one : is_some h ≡ true

part_from : (hs held : List Holding) (h : Holding) → Contains (listed_from held hs) h →
    Contains held h ⊎ (Contains hs h × (is_some h ≡ true))
part_from [] held h there = inl there
part_from (x ∷ hs) held h there =
    ⊎_elim
    (λ before. go (is_some x) refl before)
    (λ later. inr (in_tail x h hs later.0, later.1))
    (part_from hs (cond (is_some x) (held ++ x ∷ []) held) h there)
  where
    go : (b : Bool) → is_some x ≡ b → Contains (cond b (held ++ x ∷ []) held) h →
        Contains held h ⊎ (Contains (x ∷ hs) h × (is_some h ≡ true))
    go true is inside =
        ⊎_elim (λ old. inl old)
        (λ last. ⊎_elim (λ same. inr
        (subst (Contains (x ∷ hs)) (sym same) (in_head x hs), ap is_some same ∙ is))
        (λ none. absurd (not_in_nil h none)) (in_cases x h [] last))
        (Contains-append_cases held (x ∷ []) h inside)
    go false is inside = inl inside

part_stays : (hs held : List Holding) (h : Holding) → Contains held h →
    Contains (listed_from held hs) h
part_stays [] held h there = there
part_stays (x ∷ hs) held h there =
    part_stays hs (cond (is_some x) (held ++ x ∷ []) held) h
    (cond_both (is_some x) (held ++ x ∷ []) held (λ zs. Contains zs h)
    (λ e. Contains-append_left held (x ∷ []) h there) (λ e. there))

part_has : (hs held : List Holding) (h : Holding) → Contains hs h → is_some h ≡ true →
    Contains (listed_from held hs) h
part_has [] held h there some = absurd (not_in_nil h there)
part_has (x ∷ hs) held h there some =
    ⊎_elim
    (λ same.
    part_stays hs (cond (is_some x) (held ++ x ∷ []) held) h
    (subst (λ zs. Contains zs h)
    (sym (cond-true (is_some x) (held ++ x ∷ []) held (ap is_some (sym same) ∙ some)))
    (Contains-append_right held (x ∷ []) h (subst (Contains (x ∷ [])) (sym same) (in_head x [])))))
    (λ later. part_has hs (cond (is_some x) (held ++ x ∷ []) held) h later some)
    (in_cases x h hs there)

all_from_entries : (es : List (List ℕ × KeyPart)) (held : List Holding) (h : Holding) →
    Contains (held_in_all held es) h → Contains held h ⊎ IsListed es h
all_from_entries [] held h there = inl there
all_from_entries (e ∷ es) held h there =
    ⊎_elim
    (λ before.
    ⊎_elim (λ old. inl old)
    (λ now. inr (record {
      entry = e;
      in_list = in_head e es;
      in_places = now.0;
      has_one = now.1;
    })) (part_from e.1.places.items held h before))
    (λ later. inr (record {
      entry = later.entry;
      in_list = in_tail e later.entry es later.in_list;
      in_places = later.in_places;
      has_one = later.has_one;
    }))
    (all_from_entries es (listed_from held e.1.places.items) h there)

all_stay : (es : List (List ℕ × KeyPart)) (held : List Holding) (h : Holding) → Contains held h →
    Contains (held_in_all held es) h
all_stay [] held h there = there
all_stay (e ∷ es) held h there =
    all_stay es (listed_from held e.1.places.items) h (part_stays e.1.places.items held h there)

all_have : (es : List (List ℕ × KeyPart)) (held : List Holding) (h : Holding) → IsListed es h →
    Contains (held_in_all held es) h
all_have [] held h is = absurd (not_in_nil is.entry is.in_list)
all_have (e ∷ es) held h is =
    ⊎_elim
    (λ same. all_stay es (listed_from held e.1.places.items) h
    (part_has e.1.places.items held h
    (subst (λ (x : List ℕ × KeyPart). Contains x.1.places.items h) same is.in_places)
    is.has_one))
    (λ later. all_have es (listed_from held e.1.places.items) h
    (record {
      entry = is.entry;
      in_list = later;
      in_places = is.in_places;
      has_one = is.has_one;
    }))
    (in_cases e is.entry es is.in_list)

something : (vs : List Version) → not (is_nothing vs) ≡ true → 0 < length vs
something [] e = absurd (true≢false (sym e))
something (v ∷ vs) e = omega arith

some_of : (vs : List Version) (v : Version) → Contains vs v → not (is_nothing vs) ≡ true
some_of [] v there = absurd (not_in_nil v there)
some_of (x ∷ vs) v there = refl

own_spot : (h : Holding) → Spot h.holder h.home h.row.key h
own_spot h = record { holder_is = refl; home_is = refl; key_is = refl }

same_part : (p q : KeyPart) → Some p ≡ Some q → p ≡ q
same_part p q is = cc

-- the entries of the index, sorted by their keys
pub entries_in_order : (entries : List (List ℕ × KeyPart)) →
    All (λ e. part_at entries e.0 ≡ Some e.1) entries →
    ((key : List ℕ) (p : KeyPart) → part_at entries key ≡ Some p → Contains entries (key, p)) →
    (es : List (List ℕ × KeyPart)) → IsInOrder entry_cmp entries es → AreByKey entries es
entries_in_order entries found has es order =
    record {
      found = all_from (λ e. part_at entries e.0 ≡ Some e.1) es
          (λ e there. found_at e (order.is_item e there));
      has = λ key p is.
          let t = order.tied (key, p) (has key p is) in
          let same : key ≡ t.0.0 = keys_tie key t.0.0 t.2 in
          let own = found_at t.0 (order.is_item t.0 t.1) in
          let part = same_part p t.0.1 (sym is ∙ (ap (part_at entries) same ∙ own)) in
          subst (Contains es) (λ i. (sym same i, sym part i)) t.1;
      in_order = order.in_order;
    }
  where
    found_at : (e : List ℕ × KeyPart) → Contains entries e → part_at entries e.0 ≡ Some e.1
    found_at e there = All-contains (λ e. part_at entries e.0 ≡ Some e.1) entries e found there

-- what the entries of the index have, in order, is what is held
pub holdings_listed : (w : World) (entries : List (List ℕ × KeyPart)) → IsIndex w entries →
    (es : List (List ℕ × KeyPart)) → AreByKey entries es →
    (held : List Holding) → IsInOrder holding_cmp (held_in_all [] es) held →
    ListsHoldings w held
holdings_listed w entries index es by_key held order =
    record {
      each = all_from (λ h. IsSameRow h.row.versions (row_at w h.holder h.home h.row.key)) held
          (λ h there. row_of h (listed h there));
      none_empty = all_from (λ h. 0 < length h.row.versions) held
          (λ h there. something h.row.versions (listed h there).has_one);
      every = λ holder home key v there. go holder home key v (part_at entries key) refl
          (((index key).rows_are holder home v).1 there);
      in_order = order.in_order;
    }
  where
    listed : (h : Holding) → Contains held h → IsListed es h
    listed h there = ⊎_elim (λ none. absurd (not_in_nil h none)) (λ is. is)
        (all_from_entries es [] h (order.is_item h there))

    row_of : (h : Holding) → IsListed es h →
        IsSameRow h.row.versions (row_at w h.holder h.home h.row.key)
    row_of h is =
        let e = is.entry in
        let part = subst (IsPart w e.0)
        (All-contains (λ e. part_at entries e.0 ≡ Some e.1) es e by_key.found is.in_list)
        (index e.0) in
        let key_is : h.row.key ≡ e.0 =
        All-contains (λ h. h.row.key ≡ e.0) e.1.places.items h part.of_key is.in_places in
        subst (λ vs. IsSameRow vs (row_at w h.holder h.home h.row.key))
        (row_in-of h.holder h.home h.row.key e.1.places.items part.in_order h is.in_places
        (at_from h.holder h.home h.row.key h (own_spot h)))
        (subst (λ k. IsSameRow (row_in e.1.places.items h.holder h.home k)
        (row_at w h.holder h.home k)) (sym key_is) (part.rows_are h.holder h.home))

    go : (holder home : ℕ) (key : List ℕ) (v : Version) (o : Option KeyPart) →
        part_at entries key ≡ o → Contains (row_in (places_in o) holder home key) v →
        (h : Holding) × Contains held h × (h.holder ≡ holder) × (h.home ≡ home) × (h.row.key ≡ key)
    go holder home key v None is there = absurd (not_in_nil v there)
    go holder home key v (Some p) is there =
        let part = subst (IsPart w key) is (index key) in
        let f = row_in-from holder home key p.places.items v there in
        let h = f.0 in
        let row_is = row_in-of holder home key p.places.items part.in_order h f.1
        (at_from holder home key h f.2) in
        let t = order.tied h
        (all_have es [] h
        (record {
          entry = (key, p);
          in_list = by_key.has key p is;
          in_places = f.1;
          has_one = some_of h.row.versions v (subst (λ vs. Contains vs v) row_is there);
        })) in
        let same = spots_tie h t.0 t.2 in (
          t.0,
          t.1,
          sym same.holder_is ∙ f.2.holder_is,
          sym same.home_is
              ∙ f.2.home_is,
          sym same.key_is ∙ f.2.key_is,
        )
