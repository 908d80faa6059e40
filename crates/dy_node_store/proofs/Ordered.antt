-- Rows in the order of their keys are the values of their map, however its entries lay.
use Rattle.std.proofs.Common.{◌≡◌, ℕ, ◌<◌, ◌+◌, true, false, List, [], ◌∷◌, get_or, length, map, refl, sym, ap, ◌∙◌, subst, arith}
use Rattle.std.specs.declared.cmp.Ordering.TheVariants.{Less, Equal, Greater}
use Rattle.std.specs.Ordering.{nat_cmp, is_eq, is_lt, ordering_reverse}
use Rattle.std.specs.Borrow.{Bor}
use Rattle.std.specs.Cmp.Lexicographic.{slice_cmp, nat_list_cmp_total}
use Rattle.std.specs.List.{All, IsDistinct}
use Rattle.std.specs.List.Sorted.{IsPermutation, IsSortedByKey, IsStrictlySortedBy}
use Rattle.std.specs.Map.{keys_of, values_of}
use Rattle.std.specs.FinMap as maps
use Rattle.std.proofs.lemmas.Bool.{true≢false}
use Rattle.std.proofs.lemmas.List.{get_or-map, length-map}
use Rattle.std.proofs.lemmas.List.Elements.{All-head, All-tail}
use Rattle.std.proofs.lemmas.List.Sorted.{All-permutation, IsPermutation-map}
use Rattle.std.proofs.lemmas.Map.Keys.{apart_from_distinct, sorted_from_all_adjacent}
use Rattle.std.proofs.lemmas.Map.Lookups.{exact_bytes}
use Rattle.std.proofs.lemmas.Map.Text.{is_eq-slice_cmp}
use Rattle.std.proofs.lemmas.Simd.{map-map}
use Rattle.dy_siblings.specs.Siblings.{Siblings, same_key}
use Rattle.dy_node_store.specs.Rows.{IsRowOf, IsKeptRow}
use Rattle.dy_node_store.specs.inside.Entries.{AreRows}
use Rattle.dy_node_store.proofs.Hashed.{get_lookup, same_lookups, still_apart}
use Rattle.dy_node_store.proofs.Maps.{entries_rising}
use Rattle.dy_node_store.proofs.RowLemmas.{each_row, kept_values, All-mapped}

-- of two keys that differ, the one that is not behind is before
before : (j k : List ℕ) → is_lt (slice_cmp nat_cmp k j) ≡ false → same_key j k ≡ false → slice_cmp nat_cmp j k ≡ Less
before j k not_behind apart =
    elim (slice_cmp nat_cmp j k) as (λ o. slice_cmp nat_cmp j k ≡ o → o ≡ Less) [
      | Less ↦ λ _. refl
      | Equal ↦ λ tied. (let both : true ≡ false = ap is_eq (sym tied) ∙ is_eq-slice_cmp j k ∙ apart in absurd (true≢false both))
      | Greater ↦ λ behind. (let back : slice_cmp nat_cmp k j ≡ Less = (let laws = nat_list_cmp_total in laws.antisymm k j) ∙ ap ordering_reverse behind in
          let both : true ≡ false = ap is_lt (sym back) ∙ not_behind in absurd (true≢false both))
    ] refl

-- keys that do not fall and differ rise
rising : {X : Type 0} (key : X → List ℕ) (xs : List X) → IsSortedByKey key (slice_cmp nat_cmp) xs → IsDistinct same_key (map key xs) → IsStrictlySortedBy (slice_cmp nat_cmp) (map key xs)
rising key [] up apart = sorted_from_all_adjacent nat_list_cmp_total [] [] (λ k less. absurd (omega (arith, less)))
rising key (x ∷ xs) up apart = sorted_from_all_adjacent nat_list_cmp_total (map key (x ∷ xs)) (key x) (λ k less.
    let next : k + 1 < length (x ∷ xs) = subst (λ n. k + 1 < n) (length-map (x ∷ xs) key) less in
    let this : k < length (x ∷ xs) = omega (arith, next) in
    let later = get_or-map key (x ∷ xs) (k + 1) x (key x) next in
    let earlier = get_or-map key (x ∷ xs) k x (key x) this in
    before (get_or (map key (x ∷ xs)) k (key x)) (get_or (map key (x ∷ xs)) (k + 1) (key x))
    ((λ i. is_lt (slice_cmp nat_cmp (later i) (earlier i))) ∙ up k x (omega arith) next)
    (apart_from_distinct same_key (map key (x ∷ xs)) k (k + 1) (key x) apart (omega arith) less))

-- a row as an entry
abbrev entry : Bor Siblings → List ℕ × Siblings
entry row = (row.now.key, row.now)

-- entries that are rows of their keys are made of the rows
own_keys : (es : List (List ℕ × Siblings)) → All (λ e. IsRowOf e.0 e.1) es → es ≡ map (λ (row : Siblings). (row.key, row)) (values_of es)
own_keys [] rows = refl
own_keys (e ∷ es) rows =
    let same = All-head (λ e. IsRowOf e.0 e.1) e es rows in
    let later = own_keys es (All-tail (λ e. IsRowOf e.0 e.1) e es rows) in
    λ i. (sym same.0 i, e.1) ∷ later i

module _ (es : List (List ℕ × Siblings)) (rows sorted : List (Bor Siblings)) (are : AreRows es) (apart : IsDistinct same_key (keys_of es)) (listed : map (λ (row : Bor Siblings). row.now) rows ≡ values_of es) (moved : IsPermutation rows sorted) where
  -- the entries, as the sorted rows make them
  from_rows : IsPermutation es (map entry sorted)
  from_rows =
      let is = own_keys es (each_row es are apart) ∙ ap (map (λ (row : Siblings). (row.key, row))) (sym listed)
      ∙ map-map (λ (row : Siblings). (row.key, row)) (λ (row : Bor Siblings). row.now) rows in
      subst (λ l. IsPermutation l (map entry sorted)) (sym is) (IsPermutation-map entry rows sorted moved)

  -- the sorted rows are the values of the map
  pub values_in_order : IsSortedByKey (λ (row : Bor Siblings). row.now.key) (slice_cmp nat_cmp) sorted → map (λ (row : Bor Siblings). row.now) sorted ≡ maps.values (maps.from_entries {R = slice_cmp nat_cmp} es)
  values_in_order up =
      let fs = map entry sorted in
      let keys : keys_of fs ≡ map (λ (row : Bor Siblings). row.now.key) sorted = map-map (λ (e : List ℕ × Siblings). e.0) entry sorted in
      let values : values_of fs ≡ map (λ (row : Bor Siblings). row.now) sorted = map-map (λ (e : List ℕ × Siblings). e.1) entry sorted in
      let distinct = subst (IsDistinct same_key) keys (still_apart es fs from_rows apart) in
      let rise = subst (IsStrictlySortedBy (slice_cmp nat_cmp)) (sym keys) (rising (λ (row : Bor Siblings). row.now.key) sorted up distinct) in
      let same = maps.same_map nat_list_cmp_total exact_bytes (maps.from_entries fs) (maps.from_entries es) (λ q.
      get_lookup fs q ∙ same_lookups es fs from_rows apart q ∙ sym (get_lookup es q)) in
      sym values ∙ ap values_of (sym (entries_rising fs rise)) ∙ ap maps.values same

  -- and each is kept of its key
  pub kept_in_order : All (λ (row : Bor Siblings). IsKeptRow (maps.from_entries es) row.now) sorted
  kept_in_order =
      All-permutation (λ (row : Bor Siblings). IsKeptRow (maps.from_entries es) row.now) rows sorted moved
      (All-mapped (IsKeptRow (maps.from_entries es)) (λ (row : Bor Siblings). row.now) rows
      (subst (All (IsKeptRow (maps.from_entries es))) (sym listed) (kept_values es are apart)))
