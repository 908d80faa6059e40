-- What is left of a sorted list without those that tie with the one before them.
use Rattle.std.proofs.Common.{◌≡◌, true, List, refl}
use Rattle.std.specs.declared.cmp.Ordering.{Ordering}
use Rattle.std.specs.declared.cmp.Ordering.TheVariants.{Less, Equal, Greater}
use Rattle.std.specs.Ordering.{eq_by_cmp, is_eq}
use Rattle.std.specs.Cmp.{IsTotalOrder}
use Rattle.std.specs.List.{dedup}
use Rattle.std.specs.List.Sorted.{IsPermutation, IsSorted}
use Rattle.std.proofs.lemmas.Cmp.{eq_by_cmp_equiv}
use Rattle.std.proofs.lemmas.List.Kept.{Any-dedup, Contains-from_dedup, IsStrictlySortedBy-dedup}
use Rattle.std.proofs.lemmas.List.Sorted.{Contains-permutation, IsPermutation-sym}
use Rattle.dy_index.specs.Lists.{IsInOrder}

equal_is : (r : Ordering) → is_eq r ≡ true → r ≡ Equal
equal_is Less e = cc
equal_is Equal e = refl
equal_is Greater e = cc

pub order_is : {X : Type 0} (cmp : X → X → Ordering) → IsTotalOrder cmp → (items sorted : List X) →
    IsPermutation items sorted → IsSorted cmp sorted →
    IsInOrder cmp items (dedup (eq_by_cmp cmp) sorted)
order_is cmp total items sorted moved up =
    record {
      in_order = IsStrictlySortedBy-dedup total (λ x y. refl) sorted up;
      is_item = λ x there.
          Contains-permutation sorted items x (IsPermutation-sym items sorted moved)
          (Contains-from_dedup (eq_by_cmp cmp) sorted x there);
      tied = λ x there.
          let kept = Any-dedup (eq_by_cmp_equiv total) sorted x
          (Contains-permutation items sorted x moved there) in
          (kept.1, (kept.0, kept.2, kept.3), equal_is (cmp x kept.1) kept.4);
    }
