-- What is gathered from a list: all that pass the test give, each once, in order.
use Rattle.std.proofs.Common.{◌≡◌, ◌+◌, ◌<◌, ℕ, Bool, true, false, cond, ◌⊎◌, List, [], ◌∷◌, length, get_or, take, fold, refl, sym, ap, ◌∙◌, subst, inl, inr, ⊎_elim}
use Rattle.std.specs.declared.cmp.Ordering.{Ordering}
use Rattle.std.specs.Cmp.{IsTotalOrder}
use Rattle.std.specs.FinMap.{IsAntisymmetric}
use Rattle.std.specs.List.{Contains}
use Rattle.std.specs.List.Sorted.{IsStrictlySortedBy}
use Rattle.std.proofs.lemmas.Bool.{cond_both, cond-true, cond-false}
use Rattle.std.proofs.lemmas.List.Sums.{fold_more}
use Rattle.dy_core.specs.Orders.{put, gathered}
use Rattle.dy_siblings.proofs.Members.{not_in_nil, in_head, in_tail, in_cases}
use Rattle.dy_core.proofs.Putting.{put_cases, put_has, put_keeps, put_sorted}

-- an item that passes, and gives this
pub record Source {X Y : Type 0} (test : X → Bool) (of : X → Y) (xs : List X) (y : Y) : Type 0 where
  pub item : X
  pub in_list : Contains xs item
  pub passes : test item ≡ true
  pub gives : of item ≡ y

empty_sorted : {Y : Type 0} (cmp : Y → Y → Ordering) → IsStrictlySortedBy cmp []
unfolding IsStrictlySortedBy
empty_sorted cmp = tt

module _ {X Y : Type 0} (cmp : Y → Y → Ordering) (test : X → Bool) (of : X → Y) where
  abbrev step : List Y → X → List Y
  step ys x = cond (test x) (put cmp ys (of x)) ys

  from_fold : (xs : List X) (ys : List Y) (y : Y) → Contains (fold step ys xs) y → Contains ys y ⊎ Source test of xs y
  from_fold [] ys y h = inl h
  from_fold (x ∷ xs) ys y h =
      ⊎_elim
      (λ before. go (test x) refl before)
      (λ s. inr (record { item = s.item; in_list = in_tail x s.item xs s.in_list; passes = s.passes; gives = s.gives }))
      (from_fold xs (step ys x) y h)
    where
      go : (b : Bool) → test x ≡ b → Contains (cond b (put cmp ys (of x)) ys) y → Contains ys y ⊎ Source test of (x ∷ xs) y
      go true is inside =
          ⊎_elim (λ same. inr (record { item = x; in_list = in_head x xs; passes = is; gives = sym same })) (λ old. inl old) (put_cases cmp ys (of x) y inside)
      go false is inside = inl inside

  stays : IsAntisymmetric cmp → (xs : List X) (ys : List Y) (y : Y) → Contains ys y → Contains (fold step ys xs) y
  stays alike [] ys y h = h
  stays alike (x ∷ xs) ys y h =
      stays alike xs (step ys x) y
      (cond_both (test x) (put cmp ys (of x)) ys (λ zs. Contains zs y) (λ e. put_keeps cmp alike ys (of x) y h) (λ e. h))

  comes : IsAntisymmetric cmp → (xs : List X) (ys : List Y) (x : X) → Contains xs x → test x ≡ true → Contains (fold step ys xs) (of x)
  comes alike [] ys x h e = absurd (not_in_nil x h)
  comes alike (z ∷ xs) ys x h e =
      ⊎_elim
      (λ same.
      stays alike xs (step ys z) (of x)
      (subst (λ zs. Contains zs (of x)) (sym (cond-true (test z) (put cmp ys (of z)) ys (ap test (sym same) ∙ e)))
      (subst (λ y. Contains (put cmp ys y) (of x)) (ap of same) (put_has cmp ys (of x)))))
      (λ later. comes alike xs (step ys z) x later e)
      (in_cases z x xs h)

  in_order : IsTotalOrder cmp → (xs : List X) (ys : List Y) → IsStrictlySortedBy cmp ys → IsStrictlySortedBy cmp (fold step ys xs)
  in_order total [] ys sorted = sorted
  in_order total (x ∷ xs) ys sorted =
      in_order total xs (step ys x)
      (cond_both (test x) (put cmp ys (of x)) ys (IsStrictlySortedBy cmp) (λ e. put_sorted cmp total ys (of x) sorted) (λ e. sorted))

  pub gathered_from : (xs : List X) (y : Y) → Contains (gathered cmp test of xs) y → Source test of xs y
  gathered_from xs y h = ⊎_elim (λ none. absurd (not_in_nil y none)) (λ s. s) (from_fold xs [] y h)

  pub gathered_has : IsAntisymmetric cmp → (xs : List X) (x : X) → Contains xs x → test x ≡ true → Contains (gathered cmp test of xs) (of x)
  gathered_has alike xs x h e = comes alike xs [] x h e

  pub gathered_sorted : IsTotalOrder cmp → (xs : List X) → IsStrictlySortedBy cmp (gathered cmp test of xs)
  gathered_sorted total xs = in_order total xs [] (empty_sorted cmp)

-- one item more, which passes, is put into its place
pub gathered_passed : {X Y : Type 0} (cmp : Y → Y → Ordering) (test : X → Bool) (of : X → Y) (xs : List X) (i : ℕ) (x : X) → i < length xs →
    x ≡ get_or xs i x → test x ≡ true → gathered cmp test of (take (i + 1) xs) ≡ put cmp (gathered cmp test of (take i xs)) (of x)
gathered_passed {X} {Y} cmp test of xs i x within is passes =
    fold_more step [] xs i x within
    ∙ (ap (step before) (sym is) ∙ cond-true (test x) (put cmp before (of x)) before passes)
  where
    step : List Y → X → List Y
    step ys y = cond (test y) (put cmp ys (of y)) ys

    before : List Y
    before = gathered cmp test of (take i xs)

-- and one that does not is left out
pub gathered_skipped : {X Y : Type 0} (cmp : Y → Y → Ordering) (test : X → Bool) (of : X → Y) (xs : List X) (i : ℕ) (x : X) → i < length xs →
    x ≡ get_or xs i x → test x ≡ false → gathered cmp test of (take (i + 1) xs) ≡ gathered cmp test of (take i xs)
gathered_skipped {X} {Y} cmp test of xs i x within is fails =
    fold_more step [] xs i x within
    ∙ (ap (step before) (sym is) ∙ cond-false (test x) (put cmp before (of x)) before fails)
  where
    step : List Y → X → List Y
    step ys y = cond (test y) (put cmp ys (of y)) ys

    before : List Y
    before = gathered cmp test of (take i xs)
