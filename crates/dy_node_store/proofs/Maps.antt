-- An ordered map of the kit, by its entries, as a finite map from the bytes of keys.
use Rattle.std.proofs.Common.{◌≡◌, ℕ, T, Bool, true, false, ◌&&◌, cond, List, [], ◌∷◌, Option, Some, None, refl, sym, ap, ◌∙◌}
use Rattle.std.specs.declared.cmp.Ordering.TheVariants.{Less}
use Rattle.std.specs.Ordering.{nat_cmp, eq_by_cmp}
use Rattle.std.specs.Cmp.{eq_by_cmp_equiv}
use Rattle.std.specs.Cmp.Lexicographic.{slice_cmp, nat_list_cmp_total}
use Rattle.std.specs.BTreeMap.{is_at}
use Rattle.std.specs.List.{AllByRecursion}
use Rattle.std.specs.List.Sorted.{IsStrictlySortedBy}
use Rattle.std.specs.Map.{keys_of, lookup}
use Rattle.std.specs.FinMap as maps
use Rattle.std.specs.FinMap.Entries.{below_all, is_sorted, same_entries}
use Rattle.std.proofs.lemmas.Map.Lookups.{exact_bytes}
use Rattle.std.proofs.lemmas.Map.Views.{tells_apart}

module _ {X : Type 0} where
  -- the second list answers w at k, and what the first does at any other key
  abbrev pub Answers : List (List ℕ × X) → List (List ℕ × X) → List ℕ → Option X → Type 0
  Answers es fs k w = (q : List ℕ) → lookup (is_at (slice_cmp nat_cmp q)) fs ≡ cond (is_at (slice_cmp nat_cmp k) q) w (lookup (is_at (slice_cmp nat_cmp q)) es)

  find_lookup : (q : List ℕ) (es : List (List ℕ × X)) → maps.find (slice_cmp nat_cmp) q es ≡ lookup (is_at (slice_cmp nat_cmp q)) es
  find_lookup q [] = refl
  find_lookup q (e ∷ es) = ap (cond (eq_by_cmp (slice_cmp nat_cmp) q e.0) (Some e.1)) (find_lookup q es)

  -- the finite map of the entries answers what a look-up among them does
  pub get_lookup : (es : List (List ℕ × X)) (q : List ℕ) → maps.get (maps.from_entries {R = slice_cmp nat_cmp} es) q ≡ lookup (is_at (slice_cmp nat_cmp q)) es
  get_lookup es q = maps.get-from_entries nat_list_cmp_total es q ∙ find_lookup q es

  -- what a look-up answers at a key, the map that the entries are seen as answers there
  pub found : (es : List (List ℕ × X)) (m : maps.FinMap (slice_cmp nat_cmp) X) (k j : List ℕ) (o : Option X) → maps.from_entries es ≡ m → k ≡ j → o ≡ lookup (is_at (slice_cmp nat_cmp k)) es → maps.get m j ≡ o
  found es m k j o view same answer =
      ap (λ n. maps.get n j) (sym view) ∙ get_lookup es j ∙ ap (λ q. lookup (is_at (slice_cmp nat_cmp q)) es) (sym same) ∙ sym answer

  -- at a key that ties, from either side
  turned : (es : List (List ℕ × X)) (k : List ℕ) (w : Option X) (q : List ℕ) → cond (is_at (slice_cmp nat_cmp k) q) w (lookup (is_at (slice_cmp nat_cmp q)) es) ≡ cond (eq_by_cmp (slice_cmp nat_cmp) q k) w (maps.get (maps.from_entries {R = slice_cmp nat_cmp} es) q)
  turned es k w q =
      ap (λ b. cond b w (lookup (is_at (slice_cmp nat_cmp q)) es)) ((eq_by_cmp_equiv nat_list_cmp_total).symm k q)
      ∙ ap (cond (eq_by_cmp (slice_cmp nat_cmp) q k) w) (sym (get_lookup es q))

  -- entries that answer a new value at k are the map with it
  pub inserted : (es fs : List (List ℕ × X)) (k : List ℕ) (v : X) → Answers es fs k (Some v) → maps.from_entries {R = slice_cmp nat_cmp} fs ≡ maps.insert (maps.from_entries es) k v
  inserted es fs k v answers = maps.same_map nat_list_cmp_total exact_bytes _ _ (λ q.
      get_lookup fs q ∙ answers q ∙ turned es k (Some v) q ∙ sym (maps.get-insert nat_list_cmp_total (maps.from_entries es) k v q))

  below_all_later : (x : List ℕ) (es : List (List ℕ × X)) → AllByRecursion (λ y. slice_cmp nat_cmp x y ≡ Less) (keys_of es) → T (below_all (slice_cmp nat_cmp) x es)
  below_all_later x [] below = tt
  below_all_later x (e ∷ es) below = rw below.0 (below_all_later x es below.1)

  is_sorted_rising : (es : List (List ℕ × X)) → IsStrictlySortedBy (slice_cmp nat_cmp) (keys_of es) → T (is_sorted (slice_cmp nat_cmp) es)
  unfolding IsStrictlySortedBy
  is_sorted_rising [] rise = tt
  is_sorted_rising (e ∷ es) rise = both _ _ (below_all_later e.0 es rise.0) (is_sorted_rising es rise.1)
    where
      both : (a b : Bool) → T a → T b → T (a && b)
      both true b p q = q
      both false b p q = p

  -- entries in the order of their keys are those of their map
  pub entries_rising : (es : List (List ℕ × X)) → IsStrictlySortedBy (slice_cmp nat_cmp) (keys_of es) → maps.entries (maps.from_entries {R = slice_cmp nat_cmp} es) ≡ es
  entries_rising es rise = same_entries (slice_cmp nat_cmp) nat_list_cmp_total exact_bytes _ _
      (maps.entries_sorted (maps.from_entries es)) (is_sorted_rising es rise) (λ q. sym (maps.get-entries (maps.from_entries es) q) ∙ maps.get-from_entries nat_list_cmp_total es q)

  -- to remove a key that has nothing changes nothing
  pub remove_absent : (m : maps.FinMap (slice_cmp nat_cmp) X) (k : List ℕ) → maps.get m k ≡ None → maps.remove m k ≡ m
  remove_absent m k none = maps.same_map nat_list_cmp_total exact_bytes _ _ (λ q.
      maps.get-remove nat_list_cmp_total m k q
      ∙ elim (eq_by_cmp (slice_cmp nat_cmp) q k) as (λ b. eq_by_cmp (slice_cmp nat_cmp) q k ≡ b → cond b None (maps.get m q) ≡ maps.get m q) [
        | true ↦ λ tied. sym (ap (maps.get m) (tells_apart exact_bytes q k tied) ∙ none)
        | false ↦ λ _. refl
      ] refl)

  -- to insert what is there changes nothing
  pub insert_present : (m : maps.FinMap (slice_cmp nat_cmp) X) (k : List ℕ) (v : X) → maps.get m k ≡ Some v → maps.insert m k v ≡ m
  insert_present m k v there = maps.same_map nat_list_cmp_total exact_bytes _ _ (λ q.
      maps.get-insert nat_list_cmp_total m k v q
      ∙ elim (eq_by_cmp (slice_cmp nat_cmp) q k) as (λ b. eq_by_cmp (slice_cmp nat_cmp) q k ≡ b → cond b (Some v) (maps.get m q) ≡ maps.get m q) [
        | true ↦ λ tied. sym (ap (maps.get m) (tells_apart exact_bytes q k tied) ∙ there)
        | false ↦ λ _. refl
      ] refl)
