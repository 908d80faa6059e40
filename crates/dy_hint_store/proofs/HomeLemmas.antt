-- What is found among the maps for the homes.
use Rattle.std.proofs.Common.{◌≡◌, ◌≢◌, ℕ, zero, suc, ◌+◌, ◌<◌, ◌≤◌, true, false, ◌&&◌, cond, List, [], ◌∷◌, ◌++◌, length, set, Option, Some, None, IsSome, inl, inr, refl, sym, ap, ◌∙◌, subst, arith}
use mathlib.Core.Bool.{false≢true}
use Rattle.std.specs.declared.cmp.Ordering.TheVariants.{Less, Equal, Greater}
use Rattle.std.specs.Ordering.{nat_cmp, is_eq, eq_by_cmp, ordering_then}
use Rattle.std.specs.Cmp.{IsTotalOrder, nat_cmp_total, then_total, on_total, tied_itself, tied_then}
use Rattle.std.specs.Cmp.Lexicographic.{slice_cmp, nat_list_cmp_total}
use Rattle.std.specs.FinMap as maps
use Rattle.std.specs.FinMap.Entries.{find}
use Rattle.std.proofs.lemmas.Map.Lookups.{CmpEqualImpliesEq, exact_bytes, exact_unsigned, exact_pairs}
use Rattle.std.proofs.lemmas.Map.Views.{tells_apart}
use Rattle.std.proofs.lemmas.Bool.{cases_lt}
use Rattle.std.proofs.lemmas.List.{get_or-set_same, get_or-set_other, set-get_or}
use Rattle.dy_siblings.specs.Siblings.{Siblings}
use Rattle.dy_siblings.specs.Versions.{VersionParts}
use Rattle.dy_node_store.specs.Rows.{Rows, with_versions}
use Rattle.dy_node_store.specs.Absorbing.{AddsNothing, IsAbsorbed}
use Rattle.dy_node_store.specs.declared.placed.Placed.{Placed}
use Rattle.dy_node_store.specs.declared.placed.Placed.TheVariants.{Nothing, New, Over, Beside}
use Rattle.dy_hint_store.specs.Hints.{Hints, home_then_key, with_versions_for}
use Rattle.dy_hint_store.specs.inside.Homes.{rows_for, entries_for, entries_from, HaveSameRows}

-- homes and keys are in a total order, that tells all apart
pub home_then_key_total : IsTotalOrder home_then_key
home_then_key_total = then_total (on_total (λ p. p.0) nat_cmp_total) (on_total (λ p. p.1) nat_list_cmp_total)

pub home_then_key_exact : CmpEqualImpliesEq home_then_key
home_then_key_exact = exact_pairs nat_cmp (slice_cmp nat_cmp) exact_unsigned exact_bytes

-- ---- look-ups

-- the first that is there
abbrev or_else : Option Siblings → Option Siblings → Option Siblings
or_else None other = other
or_else (Some row) other = Some row

-- among the entries of its own home a place is found by its key
find_here : (home : ℕ) (key : List ℕ) (es : List (List ℕ × Siblings)) (later : List ((ℕ × List ℕ) × Siblings)) → find home_then_key (home, key) (entries_for home es ++ later) ≡ or_else (find (slice_cmp nat_cmp) key es) (find home_then_key (home, key) later)
find_here home key [] later = refl
find_here home key (e ∷ es) later =
    ap (λ r. cond (is_eq (ordering_then r (slice_cmp nat_cmp key e.0))) (Some e.1) (find home_then_key (home, key) (entries_for home es ++ later))) (tied_itself nat_cmp_total home)
    ∙ ap (cond (eq_by_cmp (slice_cmp nat_cmp) key e.0) (Some e.1)) (find_here home key es later)
    ∙ elim (eq_by_cmp (slice_cmp nat_cmp) key e.0) as (λ b. cond b (Some e.1) (or_else (find (slice_cmp nat_cmp) key es) (find home_then_key (home, key) later)) ≡ or_else (cond b (Some e.1) (find (slice_cmp nat_cmp) key es)) (find home_then_key (home, key) later)) [
      | true ↦ refl
      | false ↦ refl
    ]

-- among those of another it is not
find_past : (home other : ℕ) (key : List ℕ) → home ≢ other → (es : List (List ℕ × Siblings)) (later : List ((ℕ × List ℕ) × Siblings)) → find home_then_key (home, key) (entries_for other es ++ later) ≡ find home_then_key (home, key) later
find_past home other key apart [] later = refl
find_past home other key apart (e ∷ es) later =
    elim (nat_cmp home other) as (λ r. nat_cmp home other ≡ r → cond (is_eq (ordering_then r (slice_cmp nat_cmp key e.0))) (Some e.1) (find home_then_key (home, key) (entries_for other es ++ later)) ≡ find home_then_key (home, key) later) [
      | Less ↦ λ _. find_past home other key apart es later
      | Equal ↦ λ tied. absurd (apart (exact_unsigned home other tied))
      | Greater ↦ λ _. find_past home other key apart es later
    ] refl

-- nor among those of greater homes
find_below : (home from : ℕ) (key : List ℕ) → home < from → (homes : List Rows) → find home_then_key (home, key) (entries_from from homes) ≡ None
find_below home from key below [] = refl
find_below home from key below (rows ∷ later) =
    find_past home from key (λ same. omega (arith, same, below)) (maps.entries rows) (entries_from (suc from) later)
    ∙ find_below home (suc from) key (omega (arith, below)) later

or_else_none : (o : Option Siblings) → or_else o None ≡ o
or_else_none None = refl
or_else_none (Some row) = refl

find_from : (from home : ℕ) (key : List ℕ) (homes : List Rows) → find home_then_key (from + home, key) (entries_from from homes) ≡ maps.get (rows_for homes home) key
find_from from home key [] = sym (maps.get-empty (slice_cmp nat_cmp) key)
find_from from zero key (rows ∷ later) =
    let here : from + 0 ≡ from = omega arith in
    ap (λ n. find home_then_key (n, key) (entries_from from (rows ∷ later))) here
    ∙ find_here from key (maps.entries rows) (entries_from (suc from) later)
    ∙ ap (or_else (find (slice_cmp nat_cmp) key (maps.entries rows))) (find_below from (suc from) key (omega arith) later)
    ∙ or_else_none _
    ∙ sym (maps.get-entries rows key)
find_from from (suc home) key (rows ∷ later) =
    let further : from + suc home ≡ suc from + home = omega arith in
    find_past (from + suc home) from key (λ same. omega (arith, same)) (maps.entries rows) (entries_from (suc from) later)
    ∙ ap (λ n. find home_then_key (n, key) (entries_from (suc from) later)) further
    ∙ find_from (suc from) home key later

-- the hints answer as the home's map does
pub get_hint : (homes : List Rows) (home : ℕ) (key : List ℕ) → maps.get (maps.from_entries {R = home_then_key} (entries_from 0 homes)) (home, key) ≡ maps.get (rows_for homes home) key
get_hint homes home key =
    let from_first : home ≡ 0 + home = omega arith in
    maps.get-from_entries home_then_key_total (entries_from 0 homes) (home, key)
    ∙ ap (λ n. find home_then_key (n, key) (entries_from 0 homes)) from_first
    ∙ find_from 0 home key homes

-- maps with the same rows are the same hints
pub same_hints : (homes others : List Rows) → HaveSameRows homes others → maps.from_entries {R = home_then_key} (entries_from 0 homes) ≡ maps.from_entries (entries_from 0 others)
same_hints homes others same = maps.same_map home_then_key_total home_then_key_exact _ _ (λ q.
    get_hint homes q.0 q.1 ∙ ap (λ rows. maps.get rows q.1) (same q.0) ∙ sym (get_hint others q.0 q.1))

-- ---- changes

-- the row of these versions, if there are any
abbrev pub row_with : List ℕ → List VersionParts → Option Siblings
row_with key [] = None
row_with key (v ∷ vs) = Some (record { key = key; versions = v ∷ vs })

pub get_with_versions : (rows : Rows) (key : List ℕ) (vs : List VersionParts) (q : List ℕ) → maps.get (with_versions rows key vs) q ≡ cond (eq_by_cmp (slice_cmp nat_cmp) q key) (row_with key vs) (maps.get rows q)
get_with_versions rows key [] q = maps.get-remove nat_list_cmp_total rows key q
get_with_versions rows key (v ∷ vs) q = maps.get-insert nat_list_cmp_total rows key (record { key = key; versions = v ∷ vs }) q

pub get_with_versions_for : (hints : Hints) (home : ℕ) (key : List ℕ) (vs : List VersionParts) (q : ℕ × List ℕ) → maps.get (with_versions_for hints home key vs) q ≡ cond (eq_by_cmp home_then_key q (home, key)) (row_with key vs) (maps.get hints q)
get_with_versions_for hints home key [] q = maps.get-remove home_then_key_total hints (home, key) q
get_with_versions_for hints home key (v ∷ vs) q = maps.get-insert home_then_key_total hints (home, key) (record { key = key; versions = v ∷ vs }) q

module _ (homes : List Rows) (home : ℕ) (key : List ℕ) (vs : List VersionParts) (inside : home < length homes) where
  -- other versions in the map of a home
  abbrev pub changed : List Rows
  changed = set homes home (with_versions (rows_for homes home) key vs)

  found_changed : (q : ℕ × List ℕ) → maps.get (rows_for changed q.0) q.1 ≡ cond (eq_by_cmp nat_cmp q.0 home && eq_by_cmp (slice_cmp nat_cmp) q.1 key) (row_with key vs) (maps.get (rows_for homes q.0) q.1)
  found_changed q =
      elim (eq_by_cmp nat_cmp q.0 home) as (λ b. eq_by_cmp nat_cmp q.0 home ≡ b → maps.get (rows_for changed q.0) q.1 ≡ cond (b && eq_by_cmp (slice_cmp nat_cmp) q.1 key) (row_with key vs) (maps.get (rows_for homes q.0) q.1)) [
        | true ↦ λ tied. let same = tells_apart exact_unsigned q.0 home tied in
            ap (λ n. maps.get (rows_for changed n) q.1) same
            ∙ ap (λ rows. maps.get rows q.1) (get_or-set_same homes home _ maps.empty inside)
            ∙ get_with_versions (rows_for homes home) key vs q.1
            ∙ ap (λ n. cond (eq_by_cmp (slice_cmp nat_cmp) q.1 key) (row_with key vs) (maps.get (rows_for homes n) q.1)) (sym same)
        | false ↦ λ other. ap (λ rows. maps.get rows q.1) (get_or-set_other homes home q.0 _ maps.empty (λ same. differs q.0 other same))
      ] refl
    where
      differs : (n : ℕ) → eq_by_cmp nat_cmp n home ≡ false → n ≡ home → ⊥
      differs n other same = let both : true ≡ false = sym (ap is_eq (ap (λ m. nat_cmp m home) same ∙ tied_itself nat_cmp_total home)) ∙ other in cc

  -- are other versions in the hints
  pub changed_hints : maps.from_entries {R = home_then_key} (entries_from 0 changed) ≡ with_versions_for (maps.from_entries (entries_from 0 homes)) home key vs
  changed_hints = maps.same_map home_then_key_total home_then_key_exact _ _ (λ q.
      get_hint changed q.0 q.1
      ∙ found_changed q
      ∙ ap (λ b. cond b (row_with key vs) (maps.get (rows_for homes q.0) q.1)) (tied_then (nat_cmp q.0 home) (slice_cmp nat_cmp q.1 key))
      ∙ ap (cond (eq_by_cmp home_then_key q (home, key)) (row_with key vs)) (sym (get_hint homes q.0 q.1))
      ∙ sym (get_with_versions_for (maps.from_entries (entries_from 0 homes)) home key vs q))

-- to remove a hint that is not there changes nothing
pub remove_absent : (hints : Hints) (home : ℕ) (key : List ℕ) → maps.get hints (home, key) ≡ None → maps.remove hints (home, key) ≡ hints
remove_absent hints home key none = maps.same_map home_then_key_total home_then_key_exact _ _ (λ q.
    maps.get-remove home_then_key_total hints (home, key) q
    ∙ elim (eq_by_cmp home_then_key q (home, key)) as (λ b. eq_by_cmp home_then_key q (home, key) ≡ b → cond b None (maps.get hints q) ≡ maps.get hints q) [
      | true ↦ λ tied. sym (ap (maps.get hints) (tells_apart home_then_key_exact q (home, key) tied) ∙ none)
      | false ↦ λ _. refl
    ] refl)

-- ---- the store's view of them

-- past the maps there are no rows
pub no_rows : (homes : List Rows) (home : ℕ) → length homes ≤ home → rows_for homes home ≡ maps.empty
no_rows [] home past = refl
no_rows (rows ∷ later) zero past = absurd (omega (arith, past))
no_rows (rows ∷ later) (suc home) past = no_rows later home (omega (arith, past))

-- the map at a home's place answers for it
pub found_hint : (homes : List Rows) (hints : Hints) (at home : ℕ) (key : List ℕ) (rows : Rows) → maps.from_entries (entries_from 0 homes) ≡ hints → at ≡ home → rows ≡ rows_for homes at → maps.get hints (home, key) ≡ maps.get rows key
found_hint homes hints at home key rows view same rows_are =
    ap (λ h. maps.get h (home, key)) (sym view) ∙ get_hint homes home key
    ∙ ap (λ n. maps.get (rows_for homes n) key) (sym same) ∙ ap (λ r. maps.get r key) (sym rows_are)

-- and where there is none, none is found
pub no_hint : (homes : List Rows) (hints : Hints) (at home : ℕ) (key : List ℕ) → maps.from_entries (entries_from 0 homes) ≡ hints → at ≡ home → length homes ≤ at → maps.get hints (home, key) ≡ None
no_hint homes hints at home key view same past =
    found_hint homes hints at home key maps.empty view same (sym (no_rows homes at past)) ∙ maps.get-empty (slice_cmp nat_cmp) key

-- the map of a home with other versions makes the hints with them
pub hints_with : (homes : List Rows) (hints : Hints) (at home : ℕ) (key : List ℕ) (vs : List VersionParts) (rows : Rows) → maps.from_entries (entries_from 0 homes) ≡ hints → at ≡ home → at < length homes → rows ≡ with_versions (rows_for homes at) key vs → maps.from_entries (entries_from 0 (set homes at rows)) ≡ with_versions_for hints home key vs
hints_with homes hints at home key vs rows view same inside rows_are =
    ap (λ r. maps.from_entries (entries_from 0 (set homes at r))) rows_are
    ∙ changed_hints homes at key vs inside
    ∙ (λ i. with_versions_for (view i) (same i) key vs)

-- what becomes of a row in the map of a home, becomes of it in the hints
pub absorbed_for : (homes : List Rows) (hints : Hints) (at home : ℕ) (rows new : Rows) (row : Siblings) (placed : Placed) → maps.from_entries (entries_from 0 homes) ≡ hints → at ≡ home → at < length homes → rows ≡ rows_for homes at → IsAbsorbed rows new (with_versions rows row.key) (maps.get rows row.key) row placed → IsAbsorbed hints (maps.from_entries (entries_from 0 (set homes at new))) (with_versions_for hints home row.key) (maps.get hints (home, row.key)) row placed
absorbed_for homes hints at home rows new row Nothing view same inside is h = (
  ap (λ m. maps.from_entries (entries_from 0 (set homes at m))) (h.0 ∙ is)
      ∙ ap (λ others. maps.from_entries (entries_from 0 others)) (set-get_or homes at maps.empty) ∙ view,
  subst (λ o. AddsNothing o row) (sym (found_hint homes hints at home row.key rows view same is)) h.1,
)
absorbed_for homes hints at home rows new row New view same inside is h = (
  hints_with homes hints at home row.key row.versions new view same inside
      (h.0 ∙ ap (λ m. with_versions m row.key row.versions) is),
  found_hint homes hints at home row.key rows view same is ∙ h.1,
  h.2,
)
absorbed_for homes hints at home rows new row (Over before) view same inside is h = (
  found_hint homes hints at home row.key rows view same is ∙ h.0,
  (
    h.1.0,
    hints_with homes hints at home row.key h.1.0 new view same inside
        (h.1.1 ∙ ap (λ m. with_versions m row.key h.1.0) is),
    h.1.2,
  ),
)
absorbed_for homes hints at home rows new row (Beside dot) view same inside is h = (
  h.0,
  found_hint homes hints at home row.key rows view same is ∙ h.1,
  (
    h.2.0,
    hints_with homes hints at home row.key h.2.0 new view same inside
        (h.2.1 ∙ ap (λ m. with_versions m row.key h.2.0) is),
    h.2.2,
    h.2.3,
  ),
)

-- a hint is found only in a map
pub inside_where_found : (homes : List Rows) (hints : Hints) (at home : ℕ) (key : List ℕ) → maps.from_entries (entries_from 0 homes) ≡ hints → at ≡ home → IsSome (maps.get hints (home, key)) → at < length homes
inside_where_found homes hints at home key view same found =
    elim (cases_lt at (length homes)) [
      | inl inside ↦ inside
      | inr past ↦ let both : false ≡ true = subst IsSome (no_hint homes hints at home key view same past) found in absurd (false≢true both)
    ]
