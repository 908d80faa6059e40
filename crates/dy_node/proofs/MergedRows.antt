-- What is kept once a row was merged into what was there.
use Rattle.std.specs.List.{Contains}
use Rattle.std.proofs.Common.{⊎_elim, [], ◌≡◌, ℕ, suc, ◌+◌, ◌==◌, ◌<◌, Bool, true, false, List, ◌∷◌}
use Rattle.std.proofs.Common.{length, ◌++◌, Option, None, Some, IsSome, cond, inl, inr}
use Rattle.std.proofs.Common.{refl, sym, ap, ◌∙◌, subst, arith}
use Rattle.std.specs.FinMap as maps
use Rattle.std.proofs.lemmas.Bool.{eqb-true}
use Rattle.dy_siblings.specs.Siblings.{Siblings, IsSiblingSet, IsSameRow}
use Rattle.dy_siblings.specs.Siblings.{merge, same_key}
use Rattle.dy_siblings.proofs.SameKeys.{same_key_is, same_key_self}
use Rattle.dy_siblings.proofs.Members.{not_in_nil}
use Rattle.dy_siblings.specs.declared.versions.Version.{Version}
use Rattle.dy_siblings.proofs.Merges.{idempotent}
use Rattle.dy_node_store.specs.Rows.{versions_in, with_versions, without_dots}
use Rattle.dy_node_store.specs.Absorbing.{AddsNothing, IsAbsorbed}
use Rattle.dy_hint_store.specs.Hints.{Hints, with_versions_for}
use Rattle.dy_hint_store.proofs.HomeLemmas.{row_with}
use Rattle.dy_node.specs.inside.Placing.{EitherAt, IsAdded, IsMerged, IsUnmerged, row_kept}
use Rattle.dy_node_store.specs.declared.placed.Placed.{Placed}
use Rattle.dy_node_store.specs.declared.placed.Placed.TheVariants.{Nothing, New, Over, Beside}
use Rattle.dy_node.specs.Stored.{Rooms, hints_below, listed, versions_at, with_row}
use Rattle.dy_node.proofs.RoomLemmas.{apart_from, kept_after, kept_there, versions_kept, with_node}
use Rattle.dy_node.proofs.RoomLemmas.{found_none, found_versions, merge_nothing, own_hints_stay}
use Rattle.dy_node.proofs.RoomLemmas.{put_back, row_with-row, with_place}

-- ---- a row that is merged into what is kept

is_some : (o : Option Siblings) (key : List ℕ) (vs : List Version) → o ≡ row_with key vs →
    0 < length vs → IsSome o
is_some o key [] is some = absurd (omega (arith, some))
is_some o key (v ∷ vs) is some = subst IsSome (sym is) refl

-- a row that is put in its place, and what was there comes back where it is taken out again; a row
-- with no version is not put
abbrev IsPlaced : Rooms → Rooms → ℕ → Siblings → Placed → Type 0
IsPlaced old new home row Nothing = (new ≡ old) × (row.versions ≡ [])
IsPlaced old new home row New =
    (new ≡ with_row old home row.key row.versions) × (with_row new home row.key [] ≡ old)
IsPlaced old new home row (Over before) =
    (new ≡ with_row old home row.key row.versions)
    × (with_row new home row.key before.versions ≡ old)
    × (before.key ≡ row.key) × (0 < length before.versions) × (0 < length row.versions)
IsPlaced old new home row (Beside dot) =
    (new ≡ with_row old home row.key row.versions)
    × (with_row new home row.key (without_dots row.versions (dot ∷ [])) ≡ old)

added_placed : (old new : Rooms) (home : ℕ) (row merged : Siblings) (placed : Placed) →
    merged.key ≡ row.key →
    IsSameRow merged.versions (merge (versions_at old home row.key) row.versions) →
    IsPlaced old new home merged placed → IsAdded old new home row placed
added_placed old new home row merged Nothing same is p =
    record {
      node_is = ap (λ r. r.node) p.0;
      changed = inr (record
          { stays = p.0; none = λ v h. nowhere merged.versions p.1 v ((is v).1 h) });
      fits = tt;
      back = p.0;
    }
  where
    nowhere : (xs : List Version) → xs ≡ [] → (v : Version) → Contains xs v → ⊥
    nowhere xs e v h = not_in_nil v (subst (λ ys. Contains ys v) e h)
added_placed old new home row merged New same is p =
    record {
      node_is = ap (λ r. r.node) p.0 ∙ with_node old home merged.key merged.versions;
      changed = inl (record {
        versions = merged.versions;
        merged = is;
        placed = λ o k. subst (λ r. EitherAt home row.key merged.versions o k (versions_at r o k)
            (versions_at old o k))
            (ap (λ j. with_row old home j merged.versions) (sym same) ∙ sym p.0)
            (with_place old home row.key merged.versions o k);
      });
      fits = tt;
      back = ap (λ j. with_row new home j []) (sym same) ∙ p.1;
    }
added_placed old new home row merged (Over before) same is p =
    record {
      node_is = ap (λ r. r.node) p.0 ∙ with_node old home merged.key merged.versions;
      changed = inl (record {
        versions = merged.versions;
        merged = is;
        placed = λ o k. subst (λ r. EitherAt home row.key merged.versions o k (versions_at r o k)
            (versions_at old o k))
            (ap (λ j. with_row old home j merged.versions) (sym same) ∙ sym p.0)
            (with_place old home row.key merged.versions o k);
      });
      fits = (
        p.2 ∙ same,
        p.3,
        is_some (row_kept new home row.key) row.key merged.versions
            (ap (λ r. row_kept r home row.key)
            (p.0 ∙ ap (λ j. with_row old home j merged.versions) same) ∙ kept_after old home row.key
            merged.versions) p.4,
      );
      back = ap (λ j. with_row new home j before.versions) (sym same) ∙ p.1;
    }
added_placed old new home row merged (Beside dot) same is p =
    record {
      node_is = ap (λ r. r.node) p.0 ∙ with_node old home merged.key merged.versions;
      changed = inl (record {
        versions = merged.versions;
        merged = is;
        placed = λ o k. subst (λ r. EitherAt home row.key merged.versions o k (versions_at r o k)
            (versions_at old o k))
            (ap (λ j. with_row old home j merged.versions) (sym same) ∙ sym p.0)
            (with_place old home row.key merged.versions o k);
      });
      fits = tt;
      back = (λ i. with_row new home (back_key i) (without_dots (there i) (dot ∷ []))) ∙ p.1;
    }
  where
    back_key : row.key ≡ merged.key
    back_key = sym same

    there : versions_at new home row.key ≡ merged.versions
    there =
        ap (versions_at new home) (sym same) ∙ ap (λ r. versions_at r home merged.key) p.0
        ∙ kept_there old home merged

-- what stays, stays at each place
pub stays_placed : (r : Rooms) (home : ℕ) (key : List ℕ) (o : ℕ) (k : List ℕ) → EitherAt home key
    (versions_at r home key) o k (versions_at r o k) (versions_at r o k)
stays_placed r home key o k = by_home (o == home) refl
  where
    by_key : (b : Bool) → same_key k key ≡ b → o ≡ home → EitherAt home key (versions_at r home key)
        o k (versions_at r o k) (versions_at r o k)
    by_key true h here = inl (
      here,
      same_key_is k key h,
      (λ i. versions_at r (here i) (same_key_is k key h i)),
    )
    by_key false h here = inr (
      (λ _ same. let both : true ≡ false = sym
          (ap (λ j. same_key j key) same ∙ same_key_self key) ∙ h in cc),
      refl,
    )

    by_home : (b : Bool) → (o == home) ≡ b → EitherAt home key (versions_at r home key) o k
        (versions_at r o k) (versions_at r o k)
    by_home true h = by_key (same_key k key) refl (eqb-true o home h)
    by_home false h = inr ((λ same _. apart_from o home h same), refl)

-- a row that is kept as it is, is merged where it is
pub added_same : (r : Rooms) (home : ℕ) (row : Siblings) → IsSiblingSet row.key row.versions →
    row_kept r home row.key ≡ Some row → IsAdded r r home row Nothing
added_same r home row is kept =
    record {
      node_is = refl;
      changed = inl (record {
        versions = versions_at r home row.key;
        merged = subst (λ vs. IsSameRow vs (merge vs row.versions)) (sym same)
            (λ v. ((own v).1, (own v).0));
        placed = λ o k. stays_placed r home row.key o k;
      });
      fits = tt;
      back = refl;
    }
  where
    same : versions_at r home row.key ≡ row.versions
    same = versions_kept r home row.key ∙ ap versions_in kept

    own : IsSameRow (merge row.versions row.versions) row.versions
    own = idempotent row.versions is.none_past

-- ---- what a store took in

-- is what is kept at its place
pub added_absorbed : (old new : Rooms) (home : ℕ) (row : Siblings) (placed : Placed) →
    IsSiblingSet row.key row.versions →
    IsAbsorbed old new (with_row old home row.key) (row_kept old home row.key) row placed →
    IsAdded old new home row placed
added_absorbed old new home row Nothing valid h =
    subst (λ r. IsAdded old r home row Nothing) (sym h.0) (by_cause h.1)
  where
    here : versions_in (row_kept old home row.key) ≡ versions_at old home row.key
    here = sym (versions_kept old home row.key)

    by_cause : AddsNothing (row_kept old home row.key) row → IsAdded old old home row Nothing
    by_cause (inl kept) = added_same old home row valid kept
    by_cause (inr none) =
        record {
          node_is = refl;
          changed = inr (record {
            stays = refl;
            none = subst (λ vs. (v : Version) → Contains (merge vs row.versions) v → ⊥) here none;
          });
          fits = tt;
          back = refl;
        }
added_absorbed old new home row New valid h =
    added_placed old new home row row New refl
    (subst (λ vs. IsSameRow row.versions (merge vs row.versions))
    (found_none old home row.key row.key (sym h.1) refl) (merge_nothing row valid)) (
      h.0,
      ap (λ r. with_row r home row.key []) h.0
          ∙ put_back old home row.key row.versions [] (sym h.1),
    )
added_absorbed old new home row (Over before) valid h =
    let vs = h.1.0 in
    let m = h.1.2 in
    added_placed old new home row (record { key = row.key; versions = vs }) (Over before) refl
    (subst (λ us. IsSameRow vs (merge us row.versions))
    (found_versions old home row.key row.key before (sym h.0) refl) m.merged) (
      h.1.1,
      ap (λ r. with_row r home row.key before.versions) h.1.1
          ∙ put_back old home row.key vs before.versions
          (row_with-row row.key before m.one_key.0 m.one_key.1 ∙ sym h.0),
      m.one_key.0,
      m.one_key.1,
      m.filled,
    )
added_absorbed old new home row (Beside dot) valid h =
    let before = h.0 in
    let vs = h.2.0 in
    let m = h.2.2 in
    added_placed old new home row (record { key = row.key; versions = vs }) (Beside dot) refl
    (subst (λ us. IsSameRow vs (merge us row.versions))
    (found_versions old home row.key row.key before (sym h.1) refl) m.merged) (
      h.2.1,
      (λ i. with_row (h.2.1 i) home row.key (h.2.3 i))
          ∙ put_back old home row.key vs before.versions
          (row_with-row row.key before m.one_key.0 m.one_key.1 ∙ sym h.1),
    )

-- what is kept is the merge, where a version is left of it
pub added_versions : (old new : Rooms) (home : ℕ) (row : Siblings) (placed : Placed) →
    IsAdded old new home row placed → (v : Version) →
    Contains (merge (versions_at old home row.key) row.versions) v →
    IsSameRow (versions_at new home row.key) (merge (versions_at old home row.key) row.versions)
added_versions old new home row placed added v left = ⊎_elim merged unmerged added.changed
  where
    all : List Version
    all = merge (versions_at old home row.key) row.versions

    merged : IsMerged old new home row → IsSameRow (versions_at new home row.key) all
    merged m =
        ⊎_elim (λ here. subst (λ vs. IsSameRow vs all) (sym here.2) m.merged)
        (λ other. absurd (other.0 refl refl)) (m.placed home row.key)

    unmerged : IsUnmerged old new home row → IsSameRow (versions_at new home row.key) all
    unmerged u = absurd (u.none v left)

-- the node's own store
pub own_absorbed : (r new : Rooms) (home : ℕ) (row : Siblings) (placed : Placed) →
    (home == r.node) ≡ true →
    IsAbsorbed r new (λ vs. record r { rows = with_versions r.rows row.key vs })
    (maps.get r.rows row.key) row placed →
    IsAbsorbed r new (with_row r home row.key) (row_kept r home row.key) row placed
own_absorbed r new home row placed own h =
    subst (λ b. IsAbsorbed r new
    (λ vs. cond b (record r { rows = with_versions r.rows row.key vs })
    (record r { hints = with_versions_for r.hints home row.key vs }))
    (cond b (maps.get r.rows row.key) (maps.get r.hints (home, row.key))) row placed) (sym own) h

-- and that of its hints
pub hint_absorbed : (r new : Rooms) (home : ℕ) (row : Siblings) (placed : Placed) →
    (home == r.node) ≡ false →
    IsAbsorbed r new (λ vs. record r { hints = with_versions_for r.hints home row.key vs })
    (maps.get r.hints (home, row.key)) row placed →
    IsAbsorbed r new (with_row r home row.key) (row_kept r home row.key) row placed
hint_absorbed r new home row placed other h =
    subst (λ b. IsAbsorbed r new
    (λ vs. cond b (record r { rows = with_versions r.rows row.key vs })
    (record r { hints = with_versions_for r.hints home row.key vs }))
    (cond b (maps.get r.rows row.key) (maps.get r.hints (home, row.key))) row placed) (sym other) h

-- and the node has no hint for itself
pub own_hints_absent : (hints new : Hints) (node home : ℕ) (kept : Option Siblings)
    (row : Siblings) (placed : Placed) → (home ≡ node → ⊥) →
    IsAbsorbed hints new (with_versions_for hints home row.key) kept row placed → (k : List ℕ) →
    maps.get hints (node, k) ≡ None → maps.get new (node, k) ≡ None
own_hints_absent hints new node home kept row Nothing apart h k none =
    ap (λ m. maps.get m (node, k)) h.0 ∙ none
own_hints_absent hints new node home kept row New apart h k none =
    ap (λ m. maps.get m (node, k)) h.0
    ∙ own_hints_stay hints node home row.key row.versions apart k none
own_hints_absent hints new node home kept row (Over before) apart h k none =
    ap (λ m. maps.get m (node, k)) h.1.1
    ∙ own_hints_stay hints node home row.key h.1.0 apart k none
own_hints_absent hints new node home kept row (Beside dot) apart h k none =
    ap (λ m. maps.get m (node, k)) h.2.1
    ∙ own_hints_stay hints node home row.key h.2.0 apart k none

-- the hints for one home more
pub hints_next : (hints : Hints) (key : List ℕ) (n : ℕ) → hints_below hints key
    (n + 1) ≡ hints_below hints key n ++ listed n (maps.get hints (n, key))
hints_next hints key n = let next : n + 1 ≡ suc n = omega arith in ap (hints_below hints key) next
