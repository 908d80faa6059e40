-- A hash map of the kit, by its entries, as a finite map from the bytes of keys.
use Rattle.std.proofs.Common.{◌≡◌, ℕ, ◌+◌, Bool, true, false, cond, List, [], ◌∷◌, length, Option, Some, None, refl, sym, ap, ◌∙◌, arith}
use Rattle.std.specs.Option.{is_some}
use Rattle.std.specs.Ordering.{nat_cmp, eq_by_cmp}
use Rattle.std.specs.Cmp.Lexicographic.{slice_cmp, bytes_decides, nat_list_cmp_total, nat_list_eq_equiv}
use Rattle.std.specs.List.{AllByRecursion, IsDistinct}
use Rattle.std.specs.List.Sorted.{IsPermutation}
use Rattle.std.specs.Map.{keys_of, lookup}
use Rattle.std.specs.FinMap as maps
use Rattle.std.proofs.lemmas.List.Sorted.{Contains-permutation, IsPermutation-map, IsPermutation-sym}
use Rattle.std.proofs.lemmas.Map.Keys.{IsDistinct-head, IsDistinct-tail, IsDistinct-IsPermutation}
use Rattle.std.proofs.lemmas.Map.Lookups.{exact_bytes}
use Rattle.std.proofs.lemmas.Map.Text.{is_eq-slice_cmp}
use Rattle.std.proofs.lemmas.Map.Views.{Contains-from_lookup, lookup-from_Contains}
use Rattle.dy_siblings.specs.Siblings.{same_key}

pub turns : (j k : List ℕ) → same_key j k ≡ same_key k j
turns j k = let laws = nat_list_eq_equiv in laws.symm j k

pub one_key : (j k : List ℕ) → same_key j k ≡ true → j ≡ k
one_key j k same = (bytes_decides j k).0 same

module _ {X : Type 0} where
  -- the second list answers w at k, and what the first does at any other key
  abbrev pub Answers : List (List ℕ × X) → List (List ℕ × X) → List ℕ → Option X → Type 0
  Answers es fs k w = (q : List ℕ) → lookup (same_key q) fs ≡ cond (same_key k q) w (lookup (same_key q) es)

  find_lookup : (q : List ℕ) (es : List (List ℕ × X)) → maps.find (slice_cmp nat_cmp) q es ≡ lookup (same_key q) es
  find_lookup q [] = refl
  find_lookup q (e ∷ es) = λ i. cond (is_eq-slice_cmp q e.0 i) (Some e.1) (find_lookup q es i)

  -- the finite map of the entries answers what a look-up among them does
  pub get_lookup : (es : List (List ℕ × X)) (q : List ℕ) → maps.get (maps.from_entries {R = slice_cmp nat_cmp} es) q ≡ lookup (same_key q) es
  get_lookup es q = maps.get-from_entries nat_list_cmp_total es q ∙ find_lookup q es

  -- what a look-up answers at a key, the map that the entries are seen as answers there
  pub found : (es : List (List ℕ × X)) (m : maps.FinMap (slice_cmp nat_cmp) X) (k j : List ℕ) (o : Option X) → maps.from_entries es ≡ m → k ≡ j → o ≡ lookup (same_key k) es → maps.get m j ≡ o
  found es m k j o view same answer =
      ap (λ n. maps.get n j) (sym view) ∙ get_lookup es j ∙ ap (λ q. lookup (same_key q) es) (sym same) ∙ sym answer

  -- at a key that ties, from either side
  turned : (es : List (List ℕ × X)) (k : List ℕ) (w : Option X) (q : List ℕ) → cond (same_key k q) w (lookup (same_key q) es) ≡ cond (eq_by_cmp (slice_cmp nat_cmp) q k) w (maps.get (maps.from_entries {R = slice_cmp nat_cmp} es) q)
  turned es k w q =
      ap (λ b. cond b w (lookup (same_key q) es)) (turns k q ∙ sym (is_eq-slice_cmp q k))
      ∙ ap (cond (eq_by_cmp (slice_cmp nat_cmp) q k) w) (sym (get_lookup es q))

  -- entries that answer a new value at k are the map with it
  pub inserted : (es fs : List (List ℕ × X)) (k : List ℕ) (v : X) → Answers es fs k (Some v) → maps.from_entries {R = slice_cmp nat_cmp} fs ≡ maps.insert (maps.from_entries es) k v
  inserted es fs k v answers = maps.same_map nat_list_cmp_total exact_bytes _ _ (λ q.
      get_lookup fs q ∙ answers q ∙ turned es k (Some v) q ∙ sym (maps.get-insert nat_list_cmp_total (maps.from_entries es) k v q))

  -- entries that answer none at k are the map without it
  pub removed : (es fs : List (List ℕ × X)) (k : List ℕ) → Answers es fs k None → maps.from_entries {R = slice_cmp nat_cmp} fs ≡ maps.remove (maps.from_entries es) k
  removed es fs k answers = maps.same_map nat_list_cmp_total exact_bytes _ _ (λ q.
      get_lookup fs q ∙ answers q ∙ turned es k None q ∙ sym (maps.get-remove nat_list_cmp_total (maps.from_entries es) k q))

  once : (b : Bool) (v w x : Option X) → cond b w (cond b v x) ≡ cond b w x
  once true v w x = refl
  once false v w x = refl

  -- the later of two answers at one key counts
  pub answers_again : (es fs gs : List (List ℕ × X)) (k : List ℕ) (v w : Option X) → Answers es fs k v → Answers fs gs k w → Answers es gs k w
  answers_again es fs gs k v w first later q =
      later q ∙ ap (cond (same_key k q) w) (first q) ∙ once (same_key k q) v w _

  -- ---- entries of which no two have one key

  none_later : (k : List ℕ) (es : List (List ℕ × X)) → AllByRecursion (λ j. same_key k j ≡ false) (keys_of es) → lookup (same_key k) es ≡ None
  none_later k [] apart = refl
  none_later k (e ∷ es) apart =
      ap (λ b. cond b (Some e.1) (lookup (same_key k) es)) apart.0 ∙ none_later k es apart.1

  len_is : (es : List (List ℕ × X)) → IsDistinct same_key (keys_of es) → maps.len (maps.from_entries {R = slice_cmp nat_cmp} es) ≡ length es
  len_is [] apart = maps.len-empty (slice_cmp nat_cmp) X
  len_is (e ∷ es) apart =
      let later = maps.from_entries {R = slice_cmp nat_cmp} es in
      let none = get_lookup es e.0 ∙ none_later e.0 es (IsDistinct-head same_key e.0 (keys_of es) apart) in
      let one_more : length es + 1 ≡ length (e ∷ es) = omega arith in
      maps.len-insert nat_list_cmp_total later e.0 e.1
      ∙ ap (λ o. cond (is_some o) (maps.len later) (maps.len later + 1)) none
      ∙ ap (λ n. n + 1) (len_is es (IsDistinct-tail same_key e.0 (keys_of es) apart)) ∙ one_more

  -- their map has as many
  pub length_entries : (es : List (List ℕ × X)) → IsDistinct same_key (keys_of es) → length (maps.entries (maps.from_entries {R = slice_cmp nat_cmp} es)) ≡ length es
  length_entries es apart = sym (maps.len-entries (maps.from_entries {R = slice_cmp nat_cmp} es)) ∙ len_is es apart

  kept_lookup : (es fs : List (List ℕ × X)) → IsPermutation es fs → IsDistinct same_key (keys_of fs) → (q : List ℕ) (v : X) → lookup (same_key q) es ≡ Some v → lookup (same_key q) fs ≡ Some v
  kept_lookup es fs moved apart q v there = lookup-from_Contains nat_list_eq_equiv q v fs apart
      (Contains-permutation es fs (q, v) moved (Contains-from_lookup one_key q v es there))

  -- keys stay apart where entries change places
  pub still_apart : (es fs : List (List ℕ × X)) → IsPermutation es fs → IsDistinct same_key (keys_of es) → IsDistinct same_key (keys_of fs)
  still_apart es fs moved apart = IsDistinct-IsPermutation same_key turns (keys_of es) (keys_of fs) (IsPermutation-map (λ e. e.0) es fs moved) apart

  -- and the entries answer the same
  pub same_lookups : (es fs : List (List ℕ × X)) → IsPermutation es fs → IsDistinct same_key (keys_of es) → (q : List ℕ) → lookup (same_key q) fs ≡ lookup (same_key q) es
  same_lookups es fs moved apart q =
      elim (lookup (same_key q) es) as (λ o. lookup (same_key q) es ≡ o → lookup (same_key q) fs ≡ o) [
        | None ↦ λ none. elim (lookup (same_key q) fs) as (λ o. lookup (same_key q) fs ≡ o → o ≡ None) [
          | None ↦ λ _. refl
          | Some v ↦ λ there. sym (kept_lookup fs es (IsPermutation-sym es fs moved) apart q v there) ∙ none
        ] refl
        | Some v ↦ λ there. kept_lookup es fs moved (still_apart es fs moved apart) q v there
      ] refl
