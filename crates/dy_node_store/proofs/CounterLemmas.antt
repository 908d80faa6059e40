-- What was used stays used.
use Rattle.std.proofs.Common.{◌≡◌, ℕ, ◌≤◌, true, false, cond, max, unwrap_or, List, Some, refl, ap, ◌∙◌, arith}
use Rattle.std.specs.Ordering.{nat_cmp, is_eq, eq_by_cmp}
use Rattle.std.specs.Cmp.{tied_itself}
use Rattle.std.specs.Cmp.Lexicographic.{slice_cmp, nat_list_cmp_total}
use Rattle.std.specs.FinMap as maps
use Rattle.std.proofs.lemmas.Map.Lookups.{exact_bytes}
use Rattle.std.proofs.lemmas.Map.Views.{tells_apart}
use Rattle.dy_node_store.specs.Counters.{Counters, greatest_used, with_used}

greatest_used-with_used : (m : Counters) (k q : List ℕ) (c : ℕ) → greatest_used (with_used m k c) q ≡ unwrap_or (cond (eq_by_cmp (slice_cmp nat_cmp) q k) (Some (max (greatest_used m k) c)) (maps.get m q)) 0
greatest_used-with_used m k q c = ap (λ o. unwrap_or o 0) (maps.get-insert nat_list_cmp_total m k (max (greatest_used m k) c) q)

-- the counter itself
pub le_greatest_used : (m : Counters) (k : List ℕ) (c : ℕ) → c ≤ greatest_used (with_used m k c) k
le_greatest_used m k c =
    let same = greatest_used-with_used m k k c ∙ ap (λ r. unwrap_or (cond (is_eq r) (Some (max (greatest_used m k) c)) (maps.get m k)) 0) (tied_itself nat_list_cmp_total k) in
    omega (arith, same)

-- and each that was before
pub greatest_used-le : (m : Counters) (k q : List ℕ) (c : ℕ) → greatest_used m q ≤ greatest_used (with_used m k c) q
greatest_used-le m k q c =
    elim (eq_by_cmp (slice_cmp nat_cmp) q k) as (λ b. eq_by_cmp (slice_cmp nat_cmp) q k ≡ b → greatest_used (with_used m k c) q ≡ unwrap_or (cond b (Some (max (greatest_used m k) c)) (maps.get m q)) 0 → greatest_used m q ≤ greatest_used (with_used m k c) q) [
      | true ↦ λ tied e. let same = ap (greatest_used m) (tells_apart exact_bytes q k tied) in omega (arith, same, e)
      | false ↦ λ _ e. omega (arith, e)
    ] refl (greatest_used-with_used m k q c)
