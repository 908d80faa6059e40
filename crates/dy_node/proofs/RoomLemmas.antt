-- What is kept at a place once a row is put there.
use Rattle.std.proofs.Common.{[], ◌≡◌, ℕ, ◌==◌, ◌<◌, Bool, true, false, cond, List, ◌∷◌}
use Rattle.std.proofs.Common.{length, Some, None, IsTrue, ◌↔◌, inl, inr, ◌⊎◌}
use Rattle.std.proofs.Common.{refl, sym, ap, ◌∙◌, arith}
use Rattle.std.specs.Ordering.{nat_cmp, is_eq, eq_by_cmp}
use Rattle.std.specs.Cmp.{tied_itself}
use Rattle.std.specs.Cmp.Lexicographic.{slice_cmp, nat_list_cmp_total}
use Rattle.std.specs.FinMap as maps
use Rattle.std.proofs.lemmas.Bool.{eqb-true, eq-eqb}
use Rattle.std.proofs.lemmas.Map.Lookups.{exact_bytes}
use Rattle.std.proofs.lemmas.Map.Views.{tells_apart}
use Rattle.dy_siblings.specs.Siblings.{Siblings, IsSiblingSet, IsSameRow, is_past}
use Rattle.dy_siblings.specs.Siblings.{merge}
use Rattle.dy_core.proofs.Merging.{newest_in, newest_from}
use Rattle.std.proofs.lemmas.List.Elements.{All-contains}
use Rattle.dy_siblings.specs.declared.versions.Version.{Version}
use Rattle.dy_node_store.specs.Rows.{Rows, versions_in, versions_of, with_versions}
use Rattle.dy_hint_store.specs.Hints.{Hints, home_then_key, versions_for, with_versions_for}
use Rattle.dy_hint_store.proofs.HomeLemmas.{home_then_key_total, home_then_key_exact}
use Rattle.dy_hint_store.proofs.HomeLemmas.{get_with_versions, get_with_versions_for, row_with}
use Rattle.dy_node.specs.inside.Placing.{EitherAt, row_kept}
use Rattle.dy_node.specs.Stored.{Rooms, versions_at, with_row}

versions_in-row_with : (key : List ℕ) (vs : List Version) → versions_in (row_with key vs) ≡ vs
versions_in-row_with key [] = refl
versions_in-row_with key (v ∷ vs) = refl

pub own_place : (rows : Rows) (key : List ℕ) (vs : List Version) (k : List ℕ) →
    ((k ≡ key) × (versions_of (with_versions rows key vs) k ≡ vs))
    ⊎ ((k ≡ key → ⊥) × (versions_of (with_versions rows key vs) k ≡ versions_of rows k))
own_place rows key vs k =
    elim (eq_by_cmp (slice_cmp nat_cmp) k key) as (λ b. eq_by_cmp (slice_cmp nat_cmp) k key ≡ b →
    ((k ≡ key) × (versions_of (with_versions rows key vs) k ≡ vs))
    ⊎ ((k ≡ key → ⊥) × (versions_of (with_versions rows key vs) k ≡ versions_of rows k))) [
      | true ↦ λ tied. inl (
        tells_apart exact_bytes k key tied,
        ap versions_in
            (get_with_versions rows key vs k ∙ ap (λ b. cond b (row_with key vs) (maps.get rows k))
            tied) ∙ versions_in-row_with key vs,
      )
      | false ↦ λ apart. inr (
        (λ same. differs (same) apart),
        ap versions_in
            (get_with_versions rows key vs k ∙ ap (λ b. cond b (row_with key vs) (maps.get rows k))
            apart),
      )
    ] refl
  where
    differs : k ≡ key → eq_by_cmp (slice_cmp nat_cmp) k key ≡ false → ⊥
    differs same apart = let both : true ≡ false = sym
        (ap is_eq (ap (λ q. slice_cmp nat_cmp q key) same ∙ tied_itself nat_list_cmp_total key))
        ∙ apart in cc

pub hint_place : (hints : Hints) (home : ℕ) (key : List ℕ) (vs : List Version) (o : ℕ)
    (k : List ℕ) →
    ((o ≡ home) × (k ≡ key) × (versions_for (with_versions_for hints home key vs) o k ≡ vs))
    ⊎ ((o ≡ home → k ≡ key → ⊥) × (versions_for (with_versions_for hints home key vs) o
    k ≡ versions_for hints o k))
hint_place hints home key vs o k =
    elim (eq_by_cmp home_then_key (o, k) (home, key)) as
    (λ b. eq_by_cmp home_then_key (o, k) (home, key) ≡ b →
    ((o ≡ home) × (k ≡ key) × (versions_for (with_versions_for hints home key vs) o k ≡ vs))
    ⊎ ((o ≡ home → k ≡ key → ⊥) × (versions_for (with_versions_for hints home key vs) o
    k ≡ versions_for hints o k))) [
      | true ↦ λ tied. let same = tells_apart home_then_key_exact (o, k) (home, key) tied in
          inl (
            ap (λ p. p.0) same,
            ap (λ p. p.1) same,
            ap versions_in
                (get_with_versions_for hints home key vs (o, k)
                ∙ ap (λ b. cond b (row_with key vs) (maps.get hints (o, k))) tied)
                ∙ versions_in-row_with key vs,
          )
      | false ↦ λ apart. inr (
        (λ h j. differs h j apart),
        ap versions_in
            (get_with_versions_for hints home key vs (o, k)
            ∙ ap (λ b. cond b (row_with key vs) (maps.get hints (o, k))) apart),
      )
    ] refl
  where
    differs : o ≡ home → k ≡ key → eq_by_cmp home_then_key (o, k) (home, key) ≡ false → ⊥
    differs h j apart =
        let same : (o, k) ≡ (home, key) = λ i. (h i, j i) in
        let both : true ≡ false = sym
        (ap is_eq (ap (λ q. home_then_key q (home, key)) same ∙ tied_itself home_then_key_total
        (home, key))) ∙ apart in cc

module _ (r : Rooms) (home : ℕ) (key : List ℕ) (vs : List Version) (o : ℕ) (k : List ℕ) where
  abbrev own_rooms : Rooms
  own_rooms = record r { rows = with_versions r.rows key vs }

  abbrev hint_rooms : Rooms
  hint_rooms = record r { hints = with_versions_for r.hints home key vs }

  own_case : (b : Bool) → (home == r.node) ≡ true → (o == r.node) ≡ b →
      EitherAt home key vs o k (cond b (versions_of own_rooms.rows k) (versions_for r.hints o k))
      (cond b (versions_of r.rows k) (versions_for r.hints o k))
  own_case true h j = own_found (own_place r.rows key vs k)
    where
      own_found : ((k ≡ key) × (versions_of (with_versions r.rows key vs) k ≡ vs))
          ⊎ ((k ≡ key → ⊥) × (versions_of (with_versions r.rows key vs) k ≡ versions_of r.rows k)) →
          EitherAt home key vs o k (versions_of (with_versions r.rows key vs) k)
          (versions_of r.rows k)
      own_found (inl here) = inl
          (eqb-true o r.node j ∙ sym (eqb-true home r.node h), here.0, here.1)
      own_found (inr other) = inr ((λ _ same. other.0 same), other.1)
  own_case false h j = inr ((λ same _. differs same), refl)
    where
      differs : o ≡ home → ⊥
      differs same = let both : true ≡ false = sym (eq-eqb o r.node (same ∙ eqb-true home r.node h))
          ∙ j in cc

  hint_case : (b : Bool) → (home == r.node) ≡ false → (o == r.node) ≡ b →
      EitherAt home key vs o k (cond b (versions_of r.rows k) (versions_for hint_rooms.hints o k))
      (cond b (versions_of r.rows k) (versions_for r.hints o k))
  hint_case false h j = hint_place r.hints home key vs o k
  hint_case true h j = inr ((λ same _. differs same), refl)
    where
      differs : o ≡ home → ⊥
      differs same = let both : true ≡ false = sym
          (eq-eqb home r.node (sym same ∙ eqb-true o r.node j)) ∙ h in cc

  placed_by : (a : Bool) → (home == r.node) ≡ a → EitherAt home key vs o k
      (versions_at (cond a own_rooms hint_rooms) o k) (versions_at r o k)
  placed_by true h = own_case (o == r.node) h refl
  placed_by false h = hint_case (o == r.node) h refl

  pub with_place : EitherAt home key vs o k (versions_at (with_row r home key vs) o k)
      (versions_at r o k)
  with_place = placed_by (home == r.node) refl

with_node_by : (r : Rooms) (home : ℕ) (key : List ℕ) (vs : List Version) (a : Bool) →
    (cond a (record r { rows = with_versions r.rows key vs })
    (record r { hints = with_versions_for r.hints home key vs })).node ≡ r.node
with_node_by r home key vs true = refl
with_node_by r home key vs false = refl

-- the node stays
pub with_node : (r : Rooms) (home : ℕ) (key : List ℕ) (vs : List Version) →
    (with_row r home key vs).node ≡ r.node
with_node r home key vs = with_node_by r home key vs (home == r.node)

-- ---- a row that was put, and the one that was there

-- what is kept at the place
row_kept_by : (r : Rooms) (home : ℕ) (key : List ℕ) (vs : List Version) (a : Bool) →
    (home == r.node) ≡ a →
    row_kept (cond a (own_rooms r home key vs 0 key) (hint_rooms r home key vs 0 key)) home
    key ≡ row_with key vs
row_kept_by r home key vs true h =
    ap (λ b. cond b (maps.get (with_versions r.rows key vs) key) (maps.get r.hints (home, key))) h
    ∙ get_with_versions r.rows key vs key
    ∙ ap (λ o. cond (is_eq o) (row_with key vs) (maps.get r.rows key))
    (tied_itself nat_list_cmp_total key)
row_kept_by r home key vs false h =
    ap (λ b. cond b (maps.get r.rows key)
    (maps.get (with_versions_for r.hints home key vs) (home, key))) h
    ∙ get_with_versions_for r.hints home key vs (home, key)
    ∙ ap (λ o. cond (is_eq o) (row_with key vs) (maps.get r.hints (home, key)))
    (tied_itself home_then_key_total (home, key))

pub kept_after : (r : Rooms) (home : ℕ) (key : List ℕ) (vs : List Version) →
    row_kept (with_row r home key vs) home key ≡ row_with key vs
kept_after r home key vs = row_kept_by r home key vs (home == r.node) refl

versions_kept_by : (r : Rooms) (home : ℕ) (key : List ℕ) (a : Bool) →
    cond a (versions_of r.rows key) (versions_for r.hints home key) ≡ versions_in
    (cond a (maps.get r.rows key) (maps.get r.hints (home, key)))
versions_kept_by r home key true = refl
versions_kept_by r home key false = refl

pub versions_kept : (r : Rooms) (home : ℕ) (key : List ℕ) → versions_at r home key ≡ versions_in
    (row_kept r home key)
versions_kept r home key = versions_kept_by r home key (home == r.node)

-- and so are its versions
pub kept_there : (r : Rooms) (home : ℕ) (row : Siblings) →
    versions_at (with_row r home row.key row.versions) home row.key ≡ row.versions
kept_there r home row = versions_kept (with_row r home row.key row.versions) home row.key
    ∙ ap versions_in (kept_after r home row.key row.versions)
    ∙ versions_in-row_with row.key row.versions

back_rows : (m : Rows) (key : List ℕ) (vs ws : List Version) → row_with key ws ≡ maps.get m key →
    with_versions (with_versions m key vs) key ws ≡ m
back_rows m key vs ws was = maps.same_map nat_list_cmp_total exact_bytes _ _ (λ q.
    get_with_versions (with_versions m key vs) key ws q
    ∙ elim (eq_by_cmp (slice_cmp nat_cmp) q key) as
    (λ b. eq_by_cmp (slice_cmp nat_cmp) q key ≡ b → cond b (row_with key ws)
    (maps.get (with_versions m key vs) q) ≡ maps.get m q) [
      | true ↦ λ tied. was ∙ ap (maps.get m) (sym (tells_apart exact_bytes q key tied))
      | false ↦ λ apart. get_with_versions m key vs q
          ∙ ap (λ b. cond b (row_with key vs) (maps.get m q)) apart
    ] refl)

back_hints : (m : Hints) (home : ℕ) (key : List ℕ) (vs ws : List Version) →
    row_with key ws ≡ maps.get m (home, key) → with_versions_for (with_versions_for m home key vs)
    home key ws ≡ m
back_hints m home key vs ws was = maps.same_map home_then_key_total home_then_key_exact _ _ (λ q.
    get_with_versions_for (with_versions_for m home key vs) home key ws q
    ∙ elim (eq_by_cmp home_then_key q (home, key)) as
    (λ b. eq_by_cmp home_then_key q (home, key) ≡ b → cond b (row_with key ws)
    (maps.get (with_versions_for m home key vs) q) ≡ maps.get m q) [
      | true ↦ λ tied. was ∙ ap (maps.get m)
          (sym (tells_apart home_then_key_exact q (home, key) tied))
      | false ↦ λ apart. get_with_versions_for m home key vs q
          ∙ ap (λ b. cond b (row_with key vs) (maps.get m q)) apart
    ] refl)

back_by : (r : Rooms) (home : ℕ) (key : List ℕ) (vs ws : List Version) (a : Bool) →
    (home == r.node) ≡ a → row_with key ws ≡ cond a (maps.get r.rows key)
    (maps.get r.hints (home, key)) →
    with_row (cond a (own_rooms r home key vs 0 key) (hint_rooms r home key vs 0 key)) home key
    ws ≡ r
back_by r home key vs ws true h was =
    ap (λ b. cond b (record r { rows = with_versions (with_versions r.rows key vs) key ws })
    (record (own_rooms r home key vs 0 key) { hints = with_versions_for r.hints home key ws }))
    h
    ∙ ap (λ m. record r { rows = m }) (back_rows r.rows key vs ws was)
back_by r home key vs ws false h was =
    ap (λ b. cond b (record (hint_rooms r home key vs 0 key) { rows = with_versions r.rows key ws })
    (record r {
      hints = with_versions_for (with_versions_for r.hints home key vs) home key ws;
    })) h
    ∙ ap (λ m. record r { hints = m }) (back_hints r.hints home key vs ws was)

-- what was there is put back
pub put_back : (r : Rooms) (home : ℕ) (key : List ℕ) (vs ws : List Version) →
    row_with key ws ≡ row_kept r home key → with_row (with_row r home key vs) home key ws ≡ r
put_back r home key vs ws was = back_by r home key vs ws (home == r.node) refl was

-- a row of the key, with a version, is that of its versions
pub row_with-row : (key : List ℕ) (row : Siblings) → row.key ≡ key → 0 < length row.versions →
    row_with key row.versions ≡ Some row
row_with-row key row is some = by_versions row.versions refl some
  where
    by_versions : (vs : List Version) → row.versions ≡ vs → 0 < length vs →
        row_with key vs ≡ Some row
    by_versions [] e lt = absurd (omega (arith, lt))
    by_versions (v ∷ vs) e lt = λ i. Some (record { key = sym is i; versions = sym e i })

-- no hint is one for the node itself
pub own_hints_stay : (hints : Hints) (node home : ℕ) (key : List ℕ) (vs : List Version) →
    (home ≡ node → ⊥) → (k : List ℕ) → maps.get hints (node, k) ≡ None →
    maps.get (with_versions_for hints home key vs) (node, k) ≡ None
own_hints_stay hints node home key vs apart k none =
    get_with_versions_for hints home key vs (node, k)
    ∙ elim (eq_by_cmp home_then_key (node, k) (home, key)) as
    (λ b. eq_by_cmp home_then_key (node, k) (home, key) ≡ b → cond b (row_with key vs)
    (maps.get hints (node, k)) ≡ None) [
      | true ↦ λ tied. let same = ap (λ p. p.0)
          (tells_apart home_then_key_exact (node, k) (home, key) tied) in
          absurd (apart (sym same))
      | false ↦ λ _. none
    ] refl

-- a test that says no
pub apart_from : (home node : ℕ) → (home == node) ≡ false → home ≡ node → ⊥
apart_from home node h same = let both : true ≡ false = sym (eq-eqb home node same) ∙ h in cc

-- what is found at a place
pub found_versions : (r : Rooms) (home : ℕ) (k key : List ℕ) (row : Siblings) →
    Some row ≡ row_kept r home k → k ≡ key → row.versions ≡ versions_at r home key
found_versions r home k key row is same = ap versions_in is ∙ sym (versions_kept r home k)
    ∙ ap (versions_at r home) same

pub found_none : (r : Rooms) (home : ℕ) (k key : List ℕ) → None ≡ row_kept r home k → k ≡ key →
    [] ≡ versions_at r home key
found_none r home k key is same = ap versions_in is ∙ sym (versions_kept r home k)
    ∙ ap (versions_at r home) same

-- merged with nothing a row is itself
pub merge_nothing : (row : Siblings) → IsSiblingSet row.key row.versions → IsSameRow row.versions
    (merge [] row.versions)
merge_nothing row is v = (
  (λ h. newest_in row.versions v h
      (All-contains (λ u. is_past row.versions u.dot ≡ false) row.versions v is.none_past h)),
  (λ h. (newest_from row.versions v h).0),
)

pub some_left : {X : Type 0} (xs : List X) (b : Bool) → (IsTrue b ↔ (xs ≡ [])) → b ≡ false →
    0 < length xs
some_left [] b test no_ = let both : true ≡ false = sym (test.1 refl) ∙ no_ in cc
some_left (x ∷ xs) b test no_ = omega arith
