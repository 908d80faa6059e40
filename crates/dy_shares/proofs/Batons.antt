-- Each step keeps the rule of the book.
use Rattle.std.proofs.Common.{◌≡◌, ℕ, zero, suc, ◌+◌, ◌<◌, ◌≤◌, ◌==◌, Bool, true, false, true≢false, List, [], ◌∷◌, ◌++◌, length, slice_set, refl, ap, sym, ◌∙◌, subst, arith, inl, length-append, None}
use Rattle.std.proofs.lemmas.List.{append-nil}
use Rattle.std.proofs.lemmas.Bool.Decides.{nat_tests}
use mathlib.Core.List.{IsPrefix}
use prog.Atomic.{either}
use Rattle.logbook.specs.Pages.{Cell, cell, keeps, gives, adds, no_nib, nib, may_write, may_make, step, Moves, Goes}
use Rattle.dy_shares.specs.inside.Growth.{batons, IsKept, Readies, Looks, Appends}
use Rattle.dy_shares.proofs.Fronts.{prefix_whole, prefix_length}

module _ {E : Type 0} where
  abbrev pub shown : List E → List E
  shown log = []

  abbrev pub moved : List E → List E → ℕ → Type 0
  moved xs ys n = Unit {0}

batons_length : (n m : ℕ) → length (batons n m) ≡ n + m
batons_length zero zero = refl
batons_length zero (suc m) = omega (arith, batons_length zero m)
batons_length (suc n) m = omega (arith, batons_length n m)

batons_more : (n m : ℕ) → batons n m ++ (0, false) ∷ [] ≡ batons n (suc m)
batons_more zero zero = refl
batons_more zero (suc m) = ap (λ cs. (0, false) ∷ cs) (batons_more zero m)
batons_more (suc n) m = ap (λ cs. (0, true) ∷ cs) (batons_more n m)

batons_home : (n m : ℕ) → slice_set (batons n (suc m)) n (0, true) ≡ batons (suc n) m
batons_home zero m = refl
batons_home (suc n) m = ap (λ cs. (0, true) ∷ cs) (batons_home n m)

-- a baton that is away stands behind those at home
baton_away : (n m k : ℕ) → (cell (batons n m) k).1 ≡ false → n ≤ k
baton_away zero m k e = omega arith
baton_away (suc n) m zero e = absurd (true≢false e)
baton_away (suc n) m (suc k) e = let r = baton_away n m k e in omega arith

-- exchanging a number for itself changes nothing
stays : (n k : ℕ) → either (n == k) k n ≡ n
stays n k = by_test (n == k) refl
  where
    by_test : (b : Bool) → (n == k) ≡ b → either b k n ≡ n
    by_test true is = sym (grind (arith, nat_tests))
    by_test false is = refl

module _ {E : Type 0} where
  pub readies_goes : (log v : List E) (e : E) (old away : ℕ) → (b : Bool) → ((length log + away) == old) ≡ b
      → Goes IsKept shown moved 0 (v, (no_nib, None)) (λ n. either (n == old) (old + 1) n) (Readies (step 0 old (old + 1) e) (v, (no_nib, None))) ((length log + away, true) ∷ (0, true) ∷ batons (length log) away) log
  readies_goes log v e old away true is =
      let all : log ++ [] ≡ log = append-nil log in
      let same : length log + away ≡ old = grind (arith, nat_tests) in
      let count : either ((length log + away) == old) (old + 1) (length log + away) ≡ length log + suc away = rw is (omega arith) in (
        adds,
        [],
        None,
        tt,
        (
          suc away,
          subst (λ (l : List E). (either ((length log + away) == old) (old + 1) (length log + away), true) ∷ (0, true) ∷ (batons (length log) away ++ (0, false) ∷ []) ≡ (length l + suc away, true) ∷ (0, true) ∷ batons (length l) (suc away)) (sym all)
              (λ i. (count i, true) ∷ (0, true) ∷ batons_more (length log) away i),
        ),
        inl (refl, refl),
        λ found. ap (λ k. nib may_make (suc (suc k)) 0) (batons_length (length log) away ∙ same),
      )
  readies_goes log v e old away false is =
      let all : log ++ [] ≡ log = append-nil log in
      let count : either ((length log + away) == old) (old + 1) (length log + away) ≡ length log + away = rw is refl in (
        keeps,
        [],
        None,
        tt,
        (
          away,
          subst (λ (l : List E). (either ((length log + away) == old) (old + 1) (length log + away), true) ∷ (0, true) ∷ batons (length log) away ≡ (length l + away, true) ∷ (0, true) ∷ batons (length l) away) (sym all)
              (λ i. (count i, true) ∷ (0, true) ∷ batons (length log) away),
        ),
        inl (refl, refl),
        λ found. absurd (grind (arith, nat_tests)),
      )

  -- whatever the book is, the exchange makes a baton of this number, or finds another count
  pub readies_moves : (v : List E) (e : E) (old : ℕ)
      → Moves IsKept shown moved 0 (v, (no_nib, None)) (λ n. either (n == old) (old + 1) n) (Readies (step 0 old (old + 1) e) (v, (no_nib, None)))
  readies_moves v e old cs log kept pre away =
      let P : List Cell → Type 0 = λ c. (0 < length c) × ((cell c 0).1 ≡ true) × Goes IsKept shown moved 0 (v, (no_nib, None)) (λ n. either (n == old) (old + 1) n) (Readies (step 0 old (old + 1) e) (v, (no_nib, None))) c log in
      subst P (sym kept.1) (omega arith, refl, readies_goes log v e old kept.0 ((length log + kept.0) == old) refl)

  -- who has the baton has seen the whole history
  whole : (log v : List E) (away : ℕ) → IsPrefix v log → (cell (batons (length log) away) (length v)).1 ≡ false → v ≡ log
  whole log v away pre out = prefix_whole v log pre (baton_away (length log) away (length v) out)

  module _ (v : List E) (e : E) where
    abbrev baton : Rattle.logbook.specs.Pages.Nib
    baton = nib may_write (suc (suc (length v))) 0

    abbrev same_word : ℕ → ℕ
    same_word n = either (n == 0) 0 n

    -- with the baton that stands at the end of the history, the exchange appends
    pub appends_moves : Moves IsKept shown moved 0 (v, (baton, None)) same_word (Appends (step 0 0 0 e) (v, (baton, None)))
    appends_moves cs log kept pre away =
        let P : List Cell → Type 0 = λ c. Rattle.logbook.specs.Pages.Away baton c → (0 < length c) × ((cell c 0).1 ≡ true) × Goes IsKept shown moved 0 (v, (baton, None)) same_word (Appends (step 0 0 0 e) (v, (baton, None))) c log in
        subst P (sym kept.1) (λ out. (omega arith, refl, go kept.0 (out refl).0 (whole log v kept.0 pre (out refl).1))) away
      where
        go : (m : ℕ) → suc (suc (length v)) < suc (suc (length (batons (length log) m))) → v ≡ log → Goes IsKept shown moved 0 (v, (baton, None)) same_word (Appends (step 0 0 0 e) (v, (baton, None))) ((length log + m, true) ∷ (0, true) ∷ batons (length log) m) log
        go zero some_away is = absurd (omega (arith, batons_length (length log) zero, ap length is))
        go (suc m) some_away is = (
          gives,
          e ∷ [],
          None,
          refl,
          (
            m,
            subst (λ (k : ℕ). (same_word (length log + suc m), true) ∷ (0, true) ∷ slice_set (batons (length log) (suc m)) k (0, true) ≡ (length (log ++ e ∷ []) + m, true) ∷ (0, true) ∷ batons (length (log ++ e ∷ [])) m) (ap length (sym is))
                (λ i. (count i, true) ∷ (0, true) ∷ home i),
          ),
          inl (refl, refl),
          ap (λ l. l ++ e ∷ []) (sym is),
        )
          where
            longer : length (log ++ e ∷ []) ≡ suc (length log)
            longer = omega (arith, length-append log (e ∷ []))

            count : same_word (length log + suc m) ≡ length (log ++ e ∷ []) + m
            count = stays (length log + suc m) 0 ∙ omega (arith, longer)

            home : slice_set (batons (length log) (suc m)) (length log) (0, true) ≡ batons (length (log ++ e ∷ [])) m
            home = batons_home (length log) m ∙ ap (λ k. batons k m) (sym longer)

  -- with the baton the history is found as long as its number says
  pub looks_moves : (v : List E) (e : E) (k : ℕ) → k ≤ length v
      → Moves IsKept shown moved 0 (v, (nib may_write (suc (suc k)) 0, None)) (λ n. either (n == 0) 0 n) (Looks (step 0 0 0 e) (v, (nib may_write (suc (suc k)) 0, None)))
  looks_moves v e k le cs log kept pre away =
      let p = nib may_write (suc (suc k)) 0 in
      let P : List Cell → Type 0 = λ c. Rattle.logbook.specs.Pages.Away p c → (0 < length c) × ((cell c 0).1 ≡ true) × Goes IsKept shown moved 0 (v, (p, None)) (λ n. either (n == 0) 0 n) (Looks (step 0 0 0 e) (v, (p, None))) c log in
      let len = prefix_length v log pre in
      let all : log ++ [] ≡ log = append-nil log in
      subst P (sym kept.1) (λ out.
      let low = baton_away (length log) kept.0 k (out refl).1 in
      let is : length log ≡ k = omega arith in (
        omega arith,
        refl,
        (
          keeps,
          [],
          None,
          tt,
          (
            kept.0,
            subst (λ (l : List E). (either ((length log + kept.0) == 0) 0 (length log + kept.0), true) ∷ (0, true) ∷ batons (length log) kept.0 ≡ (length l + kept.0, true) ∷ (0, true) ∷ batons (length l) kept.0) (sym all)
                (λ i. (stays (length log + kept.0) 0 i, true) ∷ (0, true) ∷ batons (length log) kept.0),
          ),
          inl (refl, refl),
          (ap (λ (l : List E). suc (suc (length l))) all ∙ ap (λ n. suc (suc n)) is, refl),
        ),
      )) away
