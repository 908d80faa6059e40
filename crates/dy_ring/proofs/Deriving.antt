-- Derived tokens: how many there are.
use Rattle.std.proofs.Common.{◌≡◌, ℕ, zero, suc, ◌+◌, ◌<◌, ◌≤◌, Bool, true, false, ◌&&◌, ◌||◌, nat_lt, [], length, get_or, map, refl, ap, ◌∙◌, ◌⊎◌, inl, inr, arith}
use Rattle.std.specs.List.{list_any, range_with_len}
use Rattle.std.proofs.lemmas.Bool.{ne_eqb, lt-ltb, le-ltb, cases_lt, and_left, and_right}
use Rattle.std.proofs.lemmas.List.FromFn.{length-map-range_with_len, get_or-map-range_with_len}
use Rattle.dy_ring.specs.Lists.{derived_list, derived_lists, derived_token, has_too_many, lacks_token}

length_list : (node count : ℕ) → length (derived_list node count) ≡ count
length_list node count = length-map-range_with_len (derived_token node) 0 count

length_lists : (nodes count : ℕ) → length (derived_lists nodes count) ≡ nodes
length_lists nodes count = length-map-range_with_len (λ node. derived_list node count) 0 nodes

any_long : (from nodes count : ℕ) → list_any (λ list. nat_lt 64 (length list)) (map (λ node. derived_list node count) (range_with_len from nodes)) ≡ (nat_lt 0 nodes && nat_lt 64 count)
any_long from zero count = refl
any_long from (suc nodes) count =
    let here : nat_lt 64 (length (derived_list from count)) ≡ nat_lt 64 count = ap (nat_lt 64) (length_list from count) in
    let some : nat_lt 0 (suc nodes) ≡ true = lt-ltb 0 (suc nodes) (omega arith) in
    rw (here, any_long (from + 1) nodes count, some) (absorbs (nat_lt 64 count) (nat_lt 0 nodes))
  where
    absorbs : (a b : Bool) → (a || (b && a)) ≡ (true && a)
    absorbs true b = refl
    absorbs false true = refl
    absorbs false false = refl

pub too_many_derived : (nodes count : ℕ) → has_too_many (derived_lists nodes count) ≡ (nat_lt 32 nodes || (nat_lt 0 nodes && nat_lt 64 count))
too_many_derived nodes count = rw (length_lists nodes count, any_long 0 nodes count) refl

-- a node below the number has as many tokens as all have
length_at : (nodes count node : ℕ) → node < nodes → length (get_or (derived_lists nodes count) node []) ≡ count
length_at nodes count node lt =
    ap length (get_or-map-range_with_len (λ n. derived_list n count) 0 nodes node node [] lt (omega arith)) ∙ length_list node count

pub some_derived : (nodes count node : ℕ) → 0 < nodes → 0 < count → lacks_token (derived_lists nodes count) node ≡ false
some_derived nodes count node some each = go (cases_lt node nodes)
  where
    go : (node < nodes) ⊎ (nodes ≤ node) → lacks_token (derived_lists nodes count) node ≡ false
    go (inl lt) =
        let h = length_at nodes count node lt in
        and_right _ _ (ne_eqb (length (get_or (derived_lists nodes count) node [])) 0 (λ e. omega arith))
    go (inr le) =
        let h = length_lists nodes count in
        and_left _ _ (le-ltb node _ (omega arith))
