-- What a step keeps of covers and receipts, and the cover that true receipts give.
use Rattle.std.proofs.Common.{◌≡◌, ℕ, suc, Bool, true, false, cond, ◌||◌, not, eqb, List, [], ◌∷◌, length, map, ◌⊎◌, refl, sym, ap, ◌∙◌, subst, inl, ⊎_elim}
use Rattle.std.specs.List.{All, AllByRecursion, IsDistinct}
use Rattle.std.specs.Prelude.{nat_eq}
use Rattle.std.proofs.lemmas.Bool.{cases_Bool, or_cases, or_left, or_right, and_parts, true≢false, eqb-true, ne_eqb, eqb-false, not-true}
use Rattle.std.proofs.lemmas.List.Elements.{All-from_recursion, All-weaker, recursion_from_All}
use Rattle.dy_preference.specs.Preferences.{is_home, may_hold}
use Rattle.dy_core.specs.Worlds.{Layout, World}
use Rattle.dy_core.specs.Covers.{covers_at, HasCover, receipt_holds}
use Rattle.dy_core.specs.Steps.{same_place, version_made, IsAllowed, world_after_step, IsReleaseAt}
use Rattle.dy_dots.specs.declared.dots.Dot.{Dot}
use Rattle.dy_core.specs.declared.places.Place.{Place}
use Rattle.dy_core.specs.declared.steps.Step.{Step}
use Rattle.dy_core.specs.declared.steps.Step.TheVariants.{Issue, Hold, Release, Fetch, Ack}
use Rattle.dy_core.proofs.Standing.{place_is, covering_from, issue_keeps, hold_keeps, release_keeps, release_keeps_own, release_keeps_either}
use Rattle.dy_core.proofs.Kept.{IsSound}

module _ (layout : Layout) (w : World) (sound : IsSound layout w) (key : List ℕ) (d : Dot) where
  -- a step that is no release at the pair keeps its cover
  pub step_keeps_place : (home holder : ℕ) (s : Step) → IsAllowed layout w s → (IsReleaseAt holder home key s → ⊥) →
      covers_at w key d holder home ≡ true → covers_at (world_after_step w s) key d holder home ≡ true
  step_keeps_place home holder (Issue n k context value) a elsewhere c = issue_keeps w (version_made w n k context value) key d home holder c
  step_keeps_place home holder (Hold p row) a elsewhere c = hold_keeps w p.holder p.home row sound.ordered a.1 key d home holder c
  step_keeps_place home holder (Release p k e) a elsewhere c =
      release_keeps w p.holder p.home k e key d home holder
      (⊎_elim
      (λ here. let place = place_is p.holder p.home k holder home key here in absurd (elsewhere (sym place.holder_is, sym place.home_is, sym place.key_is)))
      (λ apart. apart)
      (cases_Bool (same_place p.holder p.home k holder home key)))
      c
  step_keeps_place home holder (Fetch p k) a elsewhere c = c
  step_keeps_place home holder (Ack k e n) a elsewhere c = c

  -- a home's own cover is never lost
  pub step_keeps_own : (home : ℕ) (s : Step) → IsAllowed layout w s → covers_at w key d home home ≡ true → covers_at (world_after_step w s) key d home home ≡ true
  step_keeps_own home (Issue n k context value) a c = issue_keeps w (version_made w n k context value) key d home home c
  step_keeps_own home (Hold p row) a c = hold_keeps w p.holder p.home row sound.ordered a.1 key d home home c
  step_keeps_own home (Release p k e) a c = release_keeps_own w p.holder p.home k e a.0 key d home c
  step_keeps_own home (Fetch p k) a c = c
  step_keeps_own home (Ack k e n) a c = c

  step_keeps_either : (home holder : ℕ) (s : Step) → IsAllowed layout w s → covers_at w key d holder home ≡ true →
      (covers_at (world_after_step w s) key d holder home ≡ true) ⊎ (covers_at (world_after_step w s) key d home home ≡ true)
  step_keeps_either home holder (Issue n k context value) a c = inl (issue_keeps w (version_made w n k context value) key d home holder c)
  step_keeps_either home holder (Hold p row) a c = inl (hold_keeps w p.holder p.home row sound.ordered a.1 key d home holder c)
  step_keeps_either home holder (Release p k e) a c = release_keeps_either w sound.ordered p.holder p.home k e a.0 a.2 key d home holder c
  step_keeps_either home holder (Fetch p k) a c = inl c
  step_keeps_either home holder (Ack k e n) a c = inl c

  pub step_keeps_receipt : (home holder : ℕ) (s : Step) → IsAllowed layout w s →
      receipt_holds w key d holder home ≡ true → receipt_holds (world_after_step w s) key d holder home ≡ true
  step_keeps_receipt home holder s a r =
      let pair = covers_at (world_after_step w s) key d holder home in
      let own = covers_at (world_after_step w s) key d home home in
      ⊎_elim
      (λ c. ⊎_elim (λ still. or_left pair own still) (λ mine. or_right pair own mine) (step_keeps_either home holder s a c))
      (λ c. or_right pair own (step_keeps_own home s a c))
      (or_cases (covers_at w key d holder home) (covers_at w key d home home) r)

  -- who covers for a home may hold for it
  pub cover_may : (home holder : ℕ) → covers_at w key d holder home ≡ true → may_hold (layout.homes key) holder home ≡ true
  cover_may home holder c =
      let v = covering_from w key d home holder c in (sound.held_sound holder home key v.version.dot v.stands.is_held).0

  -- who covers, covers for a home of the key
  pub cover_home : (home holder : ℕ) → covers_at w key d holder home ≡ true → is_home (layout.homes key) home ≡ true
  cover_home home holder c =
      (and_parts (is_home (layout.homes key) home) (eqb holder home || not (is_home (layout.homes key) holder)) (cover_may home holder c)).0

  -- a stand-in for one home is not another home that covers for itself
  no_clash : (home holder other : ℕ) → covers_at w key d holder home ≡ true → covers_at w key d other other ≡ true → holder ≡ other → home ≡ other
  no_clash home holder other c own same =
      let may = and_parts (is_home (layout.homes key) home) (eqb holder home || not (is_home (layout.homes key) holder)) (cover_may home holder c) in
      let other_home = cover_home other other own in
      ⊎_elim
      (λ is_own. sym (eqb-true holder home is_own) ∙ same)
      (λ no_home. absurd (true≢false (sym (ap (is_home (layout.homes key)) same ∙ other_home) ∙ not-true (is_home (layout.homes key) holder) no_home)))
      (or_cases (eqb holder home) (not (is_home (layout.homes key) holder)) may.1)

  abbrev at_home : Place → Place
  at_home p = record { home = p.home; holder = p.home }

  -- the place itself where it covers, and else the home with itself
  covering_place : Place → Place
  covering_place p = cond (covers_at w key d p.holder p.home) p (at_home p)

  -- the home covers for itself, where the place does not
  own_covers : (home holder : ℕ) → receipt_holds w key d holder home ≡ true → covers_at w key d holder home ≡ false → covers_at w key d home home ≡ true
  own_covers home holder r not_pair =
      ⊎_elim (λ c. absurd (true≢false (sym c ∙ not_pair))) (λ own. own)
      (or_cases (covers_at w key d holder home) (covers_at w key d home home) r)

  home_kept : (p : Place) → (covering_place p).home ≡ p.home
  unfolding covering_place
  home_kept p = elim (covers_at w key d p.holder p.home) as (λ b. (cond b p (at_home p)).home ≡ p.home) [ true ↦ refl | false ↦ refl ]

  homes_kept : (ps : List Place) → map (λ p. p.home) (map covering_place ps) ≡ map (λ p. p.home) ps
  homes_kept [] = refl
  homes_kept (p ∷ ps) = λ i. home_kept p i ∷ homes_kept ps i

  count_kept : (ps : List Place) → length (map covering_place ps) ≡ length ps
  count_kept [] = refl
  count_kept (p ∷ ps) = ap suc (count_kept ps)

  place_is_covering : (p : Place) → receipt_holds w key d p.holder p.home ≡ true →
      covers_at w key d (covering_place p).holder (covering_place p).home ≡ true
  unfolding covering_place
  place_is_covering p r = go (covers_at w key d p.holder p.home) refl
    where
      go : (b : Bool) → covers_at w key d p.holder p.home ≡ b → covers_at w key d (cond b p (at_home p)).holder (cond b p (at_home p)).home ≡ true
      go true is = is
      go false is = own_covers p.home p.holder r is

  all_covering : (ps : List Place) → AllByRecursion (λ p. receipt_holds w key d p.holder p.home ≡ true) ps →
      AllByRecursion (λ p. covers_at w key d p.holder p.home ≡ true) (map covering_place ps)
  all_covering [] r = tt
  all_covering (p ∷ ps) r = (place_is_covering p r.0, all_covering ps r.1)

  holders_apart : (p q : Place) → receipt_holds w key d p.holder p.home ≡ true → receipt_holds w key d q.holder q.home ≡ true →
      nat_eq p.home q.home ≡ false → nat_eq p.holder q.holder ≡ false → nat_eq (covering_place p).holder (covering_place q).holder ≡ false
  unfolding covering_place
  holders_apart p q rp rq homes holders = go (covers_at w key d p.holder p.home) (covers_at w key d q.holder q.home) refl refl
    where
      go : (b c : Bool) → covers_at w key d p.holder p.home ≡ b → covers_at w key d q.holder q.home ≡ c →
          nat_eq (cond b p (at_home p)).holder (cond c q (at_home q)).holder ≡ false
      go true true is_p is_q = holders
      go true false is_p is_q =
          ne_eqb p.holder q.home (λ same. eqb-false p.home q.home homes (no_clash p.home p.holder q.home is_p (own_covers q.home q.holder rq is_q) same))
      go false true is_p is_q =
          ne_eqb p.home q.holder (λ same. eqb-false p.home q.home homes (sym (no_clash q.home q.holder p.home is_q (own_covers p.home p.holder rp is_p) (sym same))))
      go false false is_p is_q = homes

  each_apart : (p : Place) (ps : List Place) → receipt_holds w key d p.holder p.home ≡ true → AllByRecursion (λ q. receipt_holds w key d q.holder q.home ≡ true) ps →
      AllByRecursion (λ y. nat_eq p.home y ≡ false) (map (λ q. q.home) ps) → AllByRecursion (λ y. nat_eq p.holder y ≡ false) (map (λ q. q.holder) ps) →
      AllByRecursion (λ y. nat_eq (covering_place p).holder y ≡ false) (map (λ q. q.holder) (map covering_place ps))
  each_apart p [] rp rs homes holders = tt
  each_apart p (q ∷ ps) rp rs homes holders =
      (holders_apart p q rp rs.0 homes.0 holders.0, each_apart p ps rp rs.1 homes.1 holders.1)

  all_apart : (ps : List Place) → AllByRecursion (λ q. receipt_holds w key d q.holder q.home ≡ true) ps →
      IsDistinct nat_eq (map (λ q. q.home) ps) → IsDistinct nat_eq (map (λ q. q.holder) ps) → IsDistinct nat_eq (map (λ q. q.holder) (map covering_place ps))
  unfolding IsDistinct
  all_apart [] rs homes holders = tt
  all_apart (p ∷ ps) rs homes holders =
      (each_apart p ps rs.0 rs.1 homes.0 holders.0, all_apart ps rs.1 homes.1 holders.1)

  -- true receipts of distinct homes and distinct holders give a cover
  pub cover_from_receipts : (ps : List Place) → All (λ p. receipt_holds w key d p.holder p.home ≡ true) ps →
      IsDistinct nat_eq (map (λ p. p.home) ps) → IsDistinct nat_eq (map (λ p. p.holder) ps) → HasCover layout w key d (length ps)
  cover_from_receipts ps rs homes holders =
      let by_list = recursion_from_All (λ p. receipt_holds w key d p.holder p.home ≡ true) ps rs in
      let covering = All-from_recursion (λ p. covers_at w key d p.holder p.home ≡ true) (map covering_place ps) (all_covering ps by_list) in
      record {
        places = map covering_place ps;
        is_cover = record {
          count_is = count_kept ps;
          each_home =
              All-weaker (λ p. covers_at w key d p.holder p.home ≡ true) (λ p. is_home (layout.homes key) p.home ≡ true)
              (λ p c. cover_home p.home p.holder c) (map covering_place ps) covering;
          homes_distinct = subst (IsDistinct nat_eq) (sym (homes_kept ps)) homes;
          holders_distinct = all_apart ps by_list homes holders;
          each_covers = covering;
        };
      }
