-- Each step keeps the agreement of the roll.
use Rattle.std.proofs.Common.{◌≡◌, ◌≢◌, ◌⊎◌, ℕ, zero, suc, ◌<◌, ◌==◌, List, [], ◌∷◌, ◌++◌, length, set, Bool, true, false, true≢false, refl, sym, ap, ◌∙◌, subst, inl, inr, ⊎_elim, arith}
use Rattle.std.proofs.lemmas.Bool.Decides.{nat_tests}
use mathlib.Core.Option.{none, some, some-ne-none, some-injective}
use lib.ListN.{get_elem?}
use prog.Atomic.{either}
use Rattle.atomic_table.specs.Table.{State, Allows, Splits, Joins, step, keeps}
use Rattle.atomic_table.proofs.Lists.{at_set, set_here, set_else, set_again, at_longer, at_last}
use Rattle.dy_shares.specs.declared.entries.Done.{Done}
use Rattle.dy_shares.specs.declared.parts.View.{View}
use Rattle.dy_shares.specs.inside.Agreeing.{knower, share_of, nobody, knower_with, Fits, Agree, opened, newest_share, holding, alone, lent, Compares, grown, Grows, Retires, retired}

off : false ≡ true → ⊥
off e = true≢false (sym e)

-- what stands in a list one longer
at_end : {A : Type 0} (l : List A) (a : A) (j : ℕ) (b : A) → get_elem? (l ++ a ∷ []) j ≡ some b → (get_elem? l j ≡ some b) ⊎ ((j ≡ length l) × (a ≡ b))
at_end [] a zero b e = inr (refl, some-injective a b e)
at_end [] a (suc j) b e = absurd (some-ne-none b (sym e))
at_end (x ∷ xs) a zero b e = inl e
at_end (x ∷ xs) a (suc j) b e = ⊎_elim (λ h. inl h) (λ h. inr (ap suc h.0, h.1)) (at_end xs a j b e)

pub inside : {A : Type 0} (l : List A) (j : ℕ) (b : A) → get_elem? l j ≡ some b → j < length l
inside [] j b e = absurd (some-ne-none b (sym e))
inside (x ∷ xs) zero b e = omega arith
inside (x ∷ xs) (suc j) b e = let r = inside xs j b e in omega arith

-- a function with another value at one number
abbrev at_once : (ℕ → ℕ) → ℕ → ℕ → ℕ → ℕ
at_once f k to n = either (n == k) to (f n)

once_here : (f : ℕ → ℕ) (k to n : ℕ) → n ≡ k → at_once f k to n ≡ to
once_here f k to n is = by_test (n == k) refl
  where
    by_test : (b : Bool) → (n == k) ≡ b → either b to (f n) ≡ to
    by_test true h = refl
    by_test false h = absurd (grind (arith, nat_tests))

once_else : (f : ℕ → ℕ) (k to n : ℕ) → n ≢ k → at_once f k to n ≡ f n
once_else f k to n apart = by_test (n == k) refl
  where
    by_test : (b : Bool) → (n == k) ≡ b → either b to (f n) ≡ f n
    by_test true h = absurd (apart (grind (arith, nat_tests)))
    by_test false h = refl

abbrev All : ℕ → List (List Done) → (ℕ → ℕ) → List View → Type 0
All seat parts owner views = (id : ℕ) (v : View) → get_elem? views id ≡ some v → Fits seat parts owner id v

-- the views after one seat's has changed
after_set : (seat : ℕ) (parts : List (List Done)) (owner : ℕ → ℕ) (views : List View) (id : ℕ) (w : View) → ((j : ℕ) (u : View) → j ≢ id → get_elem? views j ≡ some u → Fits seat parts owner j u) → Fits seat parts owner id w → All seat parts owner (set views id w)
after_set seat parts owner views id w others mine j u e =
    ⊎_elim
    (λ (x : (j ≡ id) × (w ≡ u)). subst (λ (y : ℕ × View). Fits seat parts owner y.0 y.1) (λ i. (sym x.0 i, x.1 i)) mine)
    (λ (x : (j ≢ id) × (get_elem? views j ≡ some u)). others j u x.0 x.1)
    (at_set views id j w u e)

-- the views with one seat more
after_new : (seat : ℕ) (parts : List (List Done)) (owner : ℕ → ℕ) (views : List View) (w : View) → All seat parts owner views → Fits seat parts owner (length views) w → All seat parts owner (views ++ w ∷ [])
after_new seat parts owner views w all mine j u e =
    ⊎_elim
    (λ was. all j u was)
    (λ (x : (j ≡ length views) × (w ≡ u)). subst (λ (y : ℕ × View). Fits seat parts owner y.0 y.1) (λ i. (sym x.0 i, x.1 i)) mine)
    (at_end views w j u e)

-- the share of an index is elsewhere: its owner does not change where another index gets another owner
module _ (seat : ℕ) (parts : List (List Done)) (owner : ℕ → ℕ) where
  pub opens : (views : List View) (id : ℕ) → get_elem? views id ≡ some (knower parts) → All seat parts owner views
      → Agree (set views id (knower (parts ++ [] ∷ [])) ++ share_of (length parts) [] ∷ [])
  opens views id at all =
      let new : List (List Done) = parts ++ [] ∷ [] in
      let to : ℕ = length (set views id (knower new)) in
      let own : ℕ → ℕ = at_once owner (length parts) to in
      let mine = (all id (knower parts) at).0 refl in
      let old : (j : ℕ) (u : View) → j ≢ id → get_elem? views j ≡ some u → Fits seat new own j u = λ j u apart e. (
        (λ k. absurd (apart (((all j u e).0 k).0 ∙ sym mine.0))),
        (λ s. let f = (all j u e).1 s in let low = inside parts u.index u.own f.1 in
            (f.0 ∙ sym (once_else owner (length parts) to u.index (λ h. omega arith)), at_longer parts ([] ∷ []) u.index u.own f.1)),
      ) in (
        seat,
        new,
        own,
        after_new seat new own (set views id (knower new)) (share_of (length parts) [])
            (after_set seat new own views id (knower new) old ((λ _. (mine.0, refl)), (λ s. absurd (off s))))
            ((λ k. absurd (off k)), (λ _. (sym (once_here owner (length parts) to (length parts) refl), at_last parts [] (length parts) refl))),
      )

  pub takes_in : (views : List View) (id other index : ℕ) (own : List Done) → get_elem? views id ≡ some (knower parts) → other ≢ id → get_elem? views other ≡ some (share_of index own) → All seat parts owner views
      → Agree (set (set views id (knower_with parts index own)) other nobody)
  takes_in views id other index own at apart there all =
      let owned : ℕ → ℕ = at_once owner index id in
      let mine = (all id (knower parts) at).0 refl in
      let theirs = (all other (share_of index own) there).1 refl in
      let rest : (j : ℕ) (u : View) → j ≢ other → get_elem? (set views id (knower_with parts index own)) j ≡ some u → Fits seat parts owned j u = λ j u away e.
      ⊎_elim
      (λ (x : (j ≡ id) × (knower_with parts index own ≡ u)). subst (λ (y : ℕ × View). Fits seat parts owned y.0 y.1) (λ i. (sym x.0 i, x.1 i))
      ((λ _. (mine.0, refl)), (λ _. (sym (once_here owner index id index refl), theirs.1))))
      (λ (x : (j ≢ id) × (get_elem? views j ≡ some u)). let f = all j u x.1 in (
        f.0,
        (λ s. let g = f.1 s in (g.0 ∙ sym (once_else owner index id u.index (λ h. away (g.0 ∙ (ap owner h ∙ sym theirs.0)))), g.1)),
      ))
      (at_set views id j (knower_with parts index own) u e) in (
        seat,
        parts,
        owned,
        after_set seat parts owned (set views id (knower_with parts index own)) other nobody rest ((λ k. absurd (off k)), (λ s. absurd (off s))),
      )

  pub gives_out : (views : List View) (id index : ℕ) (own : List Done) → get_elem? views id ≡ some (knower_with parts index own) → All seat parts owner views
      → Agree (set views id (knower parts) ++ share_of index own ∷ [])
  gives_out views id index own at all =
      let to : ℕ = length (set views id (knower parts)) in
      let owned : ℕ → ℕ = at_once owner index to in
      let mine = all id (knower_with parts index own) at in
      let old : (j : ℕ) (u : View) → j ≢ id → get_elem? views j ≡ some u → Fits seat parts owned j u = λ j u apart e. let f = all j u e in (
        f.0,
        (λ s. let g = f.1 s in (g.0 ∙ sym (once_else owner index to u.index (λ h. apart (g.0 ∙ (ap owner h ∙ sym (mine.1 refl).0)))), g.1)),
      ) in (
        seat,
        parts,
        owned,
        after_new seat parts owned (set views id (knower parts)) (share_of index own)
            (after_set seat parts owned views id (knower parts) old ((λ _. mine.0 refl), (λ s. absurd (off s))))
            ((λ k. absurd (off k)), (λ _. (sym (once_here owner index to index refl), (mine.1 refl).1))),
      )

  pub grows : (views : List View) (id index : ℕ) (own more : List Done) → get_elem? views id ≡ some (knower_with parts index own) → All seat parts owner views
      → Agree (set views id (knower_with (set parts index more) index more))
  grows views id index own more at all =
      let new = set parts index more in
      let mine = all id (knower_with parts index own) at in
      let old : (j : ℕ) (u : View) → j ≢ id → get_elem? views j ≡ some u → Fits seat new owner j u = λ j u apart e. let f = all j u e in (
        (λ k. absurd (apart ((f.0 k).0 ∙ sym (mine.0 refl).0))),
        (λ s. let g = f.1 s in (g.0, set_else parts index u.index more (λ h. apart (g.0 ∙ (ap owner h ∙ sym (mine.1 refl).0))) ∙ g.1)),
      ) in (
        seat,
        new,
        owner,
        after_set seat new owner views id (knower_with new index more) old
            ((λ _. ((mine.0 refl).0, refl)), (λ _. ((mine.1 refl).0, set_here parts index more (inside parts index own (mine.1 refl).1)))),
      )

  pub retires : (views : List View) (id index : ℕ) (own more : List Done) → get_elem? views id ≡ some (knower_with parts index own) → All seat parts owner views
      → Agree (set views id (knower (set parts index more)))
  retires views id index own more at all =
      let new = set parts index more in
      let mine = all id (knower_with parts index own) at in
      let old : (j : ℕ) (u : View) → j ≢ id → get_elem? views j ≡ some u → Fits seat new owner j u = λ j u apart e. let f = all j u e in (
        (λ k. absurd (apart ((f.0 k).0 ∙ sym (mine.0 refl).0))),
        (λ s. let g = f.1 s in (g.0, set_else parts index u.index more (λ h. apart (g.0 ∙ (ap owner h ∙ sym (mine.1 refl).0))) ∙ g.1)),
      ) in (
        seat,
        new,
        owner,
        after_set seat new owner views id (knower new) old
            ((λ _. ((mine.0 refl).0, refl)), (λ s. absurd (off s))),
      )

module _ {S : Type 0} where
  abbrev pub Rule : State S View → Type 0
  Rule s = Agree s.views

  -- the moves, at a view that is known
  pub opens_as : (id : ℕ) (v : View) (parts : List (List Done)) → v ≡ knower parts → Splits Rule id v (opened v) (newest_share v)
  opens_as id v parts is = subst (λ (u : View). Splits Rule id u (opened u) (newest_share u)) (sym is)
      (λ s h at. subst (λ p. get_elem? s.views id ≡ some (knower p) → Agree (set s.views id (opened (knower p)) ++ newest_share (knower p) ∷ [])) (sym ((h.3 id (knower parts) at).0 refl).1)
      (λ there. opens h.0 h.1 h.2 s.views id there h.3) at)

  pub takes_in_as : (id other index : ℕ) (v w : View) (parts : List (List Done)) (own : List Done) → v ≡ knower parts → w ≡ share_of index own → Joins Rule id v other w (holding v w) nobody
  takes_in_as id other index v w parts own is theirs = subst (λ (u : View × View). Joins Rule id u.0 other u.1 (holding u.0 u.1) nobody) (λ i. (sym is i, sym theirs i))
      (λ s h at apart there. subst (λ p. get_elem? s.views id ≡ some (knower p) → Agree (set (set s.views id (knower_with parts index own)) other nobody)) (sym ((h.3 id (knower parts) at).0 refl).1)
      (λ known. subst (λ p. Agree (set (set s.views id (knower_with p index own)) other nobody)) (sym ((h.3 id (knower parts) at).0 refl).1)
      (takes_in h.0 h.1 h.2 s.views id other index own known apart (sym (set_else s.views id other (knower_with parts index own) apart) ∙ there) h.3)) at)

  pub gives_out_as : (id index : ℕ) (v : View) (parts : List (List Done)) (own : List Done) → v ≡ knower_with parts index own → Splits Rule id v (alone v) (lent v)
  gives_out_as id index v parts own is = subst (λ (u : View). Splits Rule id u (alone u) (lent u)) (sym is)
      (λ s h at. subst (λ p. get_elem? s.views id ≡ some (knower_with p index own) → Agree (set s.views id (knower p) ++ share_of index own ∷ [])) (sym ((h.3 id (knower_with parts index own) at).0 refl).1)
      (λ there. gives_out h.0 h.1 h.2 s.views id index own there h.3) at)

  pub compares_as : (id slots index : ℕ) (v : View) (parts : List (List Done)) (own : List Done) → v ≡ knower_with parts index own
      → Allows Rule slots id (v, []) 0 (λ n. n) (Compares (step slots 0 0 0 none) (v, []))
  compares_as id slots index v parts own is = subst (λ (u : View). Allows Rule slots id (u, []) 0 (λ n. n) (Compares (step slots 0 0 0 none) (u, []))) (sym is)
      (λ s h len at fits.
      let mine = h.3 id (knower_with parts index own) at in
      let known : get_elem? parts index ≡ some own = subst (λ p. get_elem? p index ≡ some own) (sym (mine.0 refl).1) (mine.1 refl).1 in
      (knower_with parts index own, keeps, tt, subst Agree (sym (set_again s.views id (knower_with parts index own) at)) h, (refl, known)))

  pub retires_as : (id slots index : ℕ) (v : View) (parts : List (List Done)) (own : List Done) → v ≡ knower_with parts index own
      → Allows Rule slots id (v, []) 0 (λ n. n) (Retires (step slots 0 0 0 none) (v, []))
  retires_as id slots index v parts own is = subst (λ (u : View). Allows Rule slots id (u, []) 0 (λ n. n) (Retires (step slots 0 0 0 none) (u, []))) (sym is)
      (λ s h len at fits.
      let mine = h.3 id (knower_with parts index own) at in
      let known : get_elem? parts index ≡ some own = subst (λ p. get_elem? p index ≡ some own) (sym (mine.0 refl).1) (mine.1 refl).1 in (
        knower (set parts index (retired own)),
        keeps,
        tt,
        subst (λ p. get_elem? s.views id ≡ some (knower_with p index own) → Agree (set s.views id (knower (set p index (retired own))))) (sym (mine.0 refl).1)
            (λ there. retires h.0 h.1 h.2 s.views id index own (retired own) there h.3) at,
        (refl, known),
      ))

pub grows_as : (id slots index : ℕ) (v : View) (parts : List (List Done)) (own xs : List Done) (f : ℕ → ℕ) → v ≡ knower_with parts index own
    → Allows Rule slots id (v, []) 0 f (Grows (step slots 0 0 0 (some xs)) (v, []))
grows_as id slots index v parts own xs f is = subst (λ (u : View). Allows Rule slots id (u, []) 0 f (Grows (step slots 0 0 0 (some xs)) (u, []))) (sym is)
    (λ s h len at fits.
    let mine = h.3 id (knower_with parts index own) at in
    let more = own ++ xs in (
      grown (knower_with parts index own) xs,
      keeps,
      tt,
      subst (λ p. get_elem? s.views id ≡ some (knower_with p index own) → Agree (set s.views id (knower_with (set p index more) index more))) (sym (mine.0 refl).1)
          (λ there. grows h.0 h.1 h.2 s.views id index own more there h.3) at,
      λ ys same. ap (λ (zs : List Done). (grown (knower_with parts index own) zs, [])) (some-injective xs ys same),
    ))

pub begins : Agree (knower [] ∷ [])
begins = (0, [], (λ n. n), one)
  where
    one : All 0 [] (λ n. n) (knower [] ∷ [])
    one zero v e = subst (Fits 0 [] (λ n. n) 0) (some-injective _ _ e) ((λ _. (refl, refl)), (λ s. absurd (off s)))
    one (suc id) v e = absurd (some-ne-none v (sym e))

-- the view of a seat that was made of a badge
pub taken : (v w : View) (vs : List View) → v ∷ [] ≡ w ∷ vs → v ≡ w
taken v w vs e = cc e
