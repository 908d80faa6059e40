-- What putting an item into a list in order leaves.
use Rattle.std.proofs.Common.{◌≡◌, true, false, ◌⊎◌, ◌==◌, ℕ, ◌+◌, ◌<◌, ◌≤◌, List, [], ◌∷◌, ◌++◌, length, get_or, set, take, drop, refl, sym, ap, ◌∙◌, subst, inl, inr, ⊎_elim}
use Rattle.std.specs.declared.cmp.Ordering.{Ordering}
use Rattle.std.specs.declared.cmp.Ordering.TheVariants.{Less, Equal, Greater}
use Rattle.std.specs.Ordering.{match_ordering, ordering_index, ordering_reverse}
use Rattle.std.specs.Cmp.{IsTotalOrder}
use Rattle.std.specs.FinMap.{IsAntisymmetric}
use Rattle.std.specs.List.{AllByRecursion, Contains, insert}
use Rattle.std.specs.List.Sorted.{IsStrictlySortedBy}
use Rattle.std.proofs.lemmas.Bool.{true≢false}
use Rattle.std.proofs.lemmas.List.{take-append-drop, take-set, drop-set, drop_more, drop_all, get_or_default}
use Rattle.dy_core.specs.Orders.{put}
use Rattle.dy_siblings.proofs.Members.{not_in_nil, in_head, in_tail, in_cases}

module _ {X : Type 0} (cmp : X → X → Ordering) where
  pub put_cases : (xs : List X) (x y : X) → Contains (put cmp xs x) y → (y ≡ x) ⊎ Contains xs y
  put_cases [] x y h = in_cases x y [] h
  put_cases (z ∷ zs) x y h = go (cmp x z) h (put_cases zs x y)
    where
      go : (r : Ordering) → Contains (match_ordering r (x ∷ z ∷ zs) (x ∷ zs) (z ∷ put cmp zs x)) y →
          (Contains (put cmp zs x) y → (y ≡ x) ⊎ Contains zs y) → (y ≡ x) ⊎ Contains (z ∷ zs) y
      go Less h below = in_cases x y (z ∷ zs) h
      go Equal h below = ⊎_elim (λ same. inl same) (λ later. inr (in_tail z y zs later)) (in_cases x y zs h)
      go Greater h below =
          ⊎_elim (λ same. inr (subst (Contains (z ∷ zs)) (sym same) (in_head z zs)))
          (λ later. ⊎_elim (λ same. inl same) (λ l. inr (in_tail z y zs l)) (below later))
          (in_cases z y (put cmp zs x) h)

  pub put_has : (xs : List X) (x : X) → Contains (put cmp xs x) x
  put_has [] x = in_head x []
  put_has (z ∷ zs) x = go (cmp x z) (put_has zs x)
    where
      go : (r : Ordering) → Contains (put cmp zs x) x → Contains (match_ordering r (x ∷ z ∷ zs) (x ∷ zs) (z ∷ put cmp zs x)) x
      go Less below = in_head x (z ∷ zs)
      go Equal below = in_head x zs
      go Greater below = in_tail z x (put cmp zs x) below

  -- where a tie is the same item, none is lost
  pub put_keeps : IsAntisymmetric cmp → (xs : List X) (x y : X) → Contains xs y → Contains (put cmp xs x) y
  put_keeps alike [] x y h = absurd (not_in_nil y h)
  put_keeps alike (z ∷ zs) x y h = go (cmp x z) refl (put_keeps alike zs x y)
    where
      go : (r : Ordering) → cmp x z ≡ r → (Contains zs y → Contains (put cmp zs x) y) →
          Contains (match_ordering r (x ∷ z ∷ zs) (x ∷ zs) (z ∷ put cmp zs x)) y
      go Less is below = in_tail x y (z ∷ zs) h
      go Equal is below =
          ⊎_elim (λ same. subst (Contains (x ∷ zs)) (alike x z is ∙ sym same) (in_head x zs)) (λ later. in_tail x y zs later) (in_cases z y zs h)
      go Greater is below =
          ⊎_elim (λ same. subst (Contains (z ∷ put cmp zs x)) (sym same) (in_head z (put cmp zs x)))
          (λ later. in_tail z y (put cmp zs x) (below later))
          (in_cases z y zs h)

  put_all : (P : X → Type 0) (xs : List X) (x : X) → AllByRecursion P xs → P x → AllByRecursion P (put cmp xs x)
  put_all P [] x all here = (here, tt)
  put_all P (z ∷ zs) x all here = go (cmp x z) (put_all P zs x all.1 here)
    where
      go : (r : Ordering) → AllByRecursion P (put cmp zs x) → AllByRecursion P (match_ordering r (x ∷ z ∷ zs) (x ∷ zs) (z ∷ put cmp zs x))
      go Less below = (here, all)
      go Equal below = (here, all.1)
      go Greater below = (all.0, below)

  all_weaker : (P Q : X → Type 0) → ((x : X) → P x → Q x) → (xs : List X) → AllByRecursion P xs → AllByRecursion Q xs
  all_weaker P Q weaker [] all = tt
  all_weaker P Q weaker (x ∷ xs) all = (weaker x all.0, all_weaker P Q weaker xs all.1)

  pub put_sorted : IsTotalOrder cmp → (xs : List X) (x : X) → IsStrictlySortedBy cmp xs → IsStrictlySortedBy cmp (put cmp xs x)
  unfolding IsStrictlySortedBy
  put_sorted total [] x sorted = (tt, tt)
  put_sorted total (z ∷ zs) x sorted = go (cmp x z) refl (put_sorted total zs x sorted.1)
    where
      go : (r : Ordering) → cmp x z ≡ r → IsStrictlySortedBy cmp (put cmp zs x) →
          IsStrictlySortedBy cmp (match_ordering r (x ∷ z ∷ zs) (x ∷ zs) (z ∷ put cmp zs x))
      go Less is below = ((is, all_weaker (λ y. cmp z y ≡ Less) (λ y. cmp x y ≡ Less) (λ y after. total.trans x z y is after) zs sorted.0), sorted)
      go Equal is below = (all_weaker (λ y. cmp z y ≡ Less) (λ y. cmp x y ≡ Less) (λ y after. total.congr x z y is ∙ after) zs sorted.0, sorted.1)
      go Greater is below =
          (put_all (λ y. cmp z y ≡ Less) zs x sorted.0 (total.antisymm z x ∙ ap ordering_reverse is), below)

  -- instead of the item at this place, where all before it come before x
  pub put_tie : (xs : List X) (at : ℕ) (x y : X) → at < length xs → put cmp xs x ≡ take at xs ++ put cmp (drop at xs) x →
      y ≡ get_or xs at y → (ordering_index (cmp x y) == 1) ≡ true → set xs at x ≡ put cmp xs x
  put_tie xs at x y lt before is tie =
      sym (take-append-drop at (set xs at x))
      ∙ (λ i. take-set xs at x i ++ drop-set xs at x lt i)
      ∙ ap (λ zs. take at xs ++ zs)
      (sym (ap (λ zs. put cmp zs x) (drop_more xs at y lt ∙ ap (λ z. z ∷ drop (at + 1) xs) (sym is))
      ∙ ap (λ r. match_ordering r (x ∷ y ∷ drop (at + 1) xs) (x ∷ drop (at + 1) xs) (y ∷ put cmp (drop (at + 1) xs) x)) (tie_is (cmp x y) tie)))
      ∙ sym before
    where
      tie_is : (r : Ordering) → (ordering_index r == 1) ≡ true → r ≡ Equal
      tie_is Less e = absurd (true≢false (sym e))
      tie_is Equal e = refl
      tie_is Greater e = absurd (true≢false (sym e))

  -- before the item at this place
  pub put_before : (xs : List X) (at : ℕ) (x y : X) → at < length xs → put cmp xs x ≡ take at xs ++ put cmp (drop at xs) x →
      y ≡ get_or xs at y → (cmp x (get_or xs at x) ≡ Greater → ⊥) → (ordering_index (cmp x y) == 1) ≡ false → insert xs at x ≡ put cmp xs x
  put_before xs at x y lt before is stop other =
      ap (λ zs. take at xs ++ zs)
      (ap (λ zs. x ∷ zs) dropped
      ∙ sym (ap (λ zs. put cmp zs x) dropped
      ∙ ap (λ r. match_ordering r (x ∷ y ∷ drop (at + 1) xs) (x ∷ drop (at + 1) xs) (y ∷ put cmp (drop (at + 1) xs) x)) (less_is (cmp x y) not_greater other)))
      ∙ sym before
    where
      dropped : drop at xs ≡ y ∷ drop (at + 1) xs
      dropped = drop_more xs at y lt ∙ ap (λ z. z ∷ drop (at + 1) xs) (sym is)

      not_greater : cmp x y ≡ Greater → ⊥
      not_greater e = stop (ap (cmp x) (get_or_default xs at x y lt ∙ sym is) ∙ e)

      less_is : (r : Ordering) → (r ≡ Greater → ⊥) → (ordering_index r == 1) ≡ false → r ≡ Less
      less_is Less not_greater not_equal = refl
      less_is Equal not_greater not_equal = absurd (true≢false not_equal)
      less_is Greater not_greater not_equal = absurd (not_greater refl)

  -- at the end
  pub put_last : (xs : List X) (at : ℕ) (x : X) → length xs ≤ at → put cmp xs x ≡ take at xs ++ put cmp (drop at xs) x → insert xs at x ≡ put cmp xs x
  put_last xs at x end before =
      ap (λ zs. take at xs ++ zs) (ap (λ zs. x ∷ zs) (drop_all at xs end) ∙ sym (ap (λ zs. put cmp zs x) (drop_all at xs end)))
      ∙ sym before
