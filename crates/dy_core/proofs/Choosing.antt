-- Places can be chosen, no two with one home or one holder: with the first of the list, or without.
use Rattle.std.proofs.Common.{◌≡◌, ℕ, suc, ◌+◌, Bool, true, false, not, ◌&&◌, ◌⊎◌, ◌↔◌, eqb, List, [], ◌∷◌, length, map, refl, sym, ap, ◌∙◌, subst, inl, inr, ⊎_elim, arith}
use Rattle.std.specs.Prelude.{nat_eq}
use Rattle.std.specs.List.{All, AllByRecursion, Contains, IsDistinct, filter, list_any}
use Rattle.std.proofs.lemmas.Bool.{cases_Bool, cond_both, or_cases, or_left, or_right, and_parts, and_from, true≢false, eqb-true, eq-eqb, eqb-false, ne_eqb, not-true, not_from_false}
use Rattle.std.proofs.lemmas.List.Elements.{All-contains}
use Rattle.dy_preference.specs.Preferences.{is_home}
use Rattle.dy_core.specs.Worlds.{Layout, World}
use Rattle.dy_core.specs.Covers.{CoversAt, HasCover}
use Rattle.dy_core.specs.inside.Meanings.{CanChoose, apart_from, clashes}
use Rattle.dy_core.specs.Listings.{ListsCovers}
use Rattle.dy_dots.specs.declared.dots.Dot.{Dot}
use Rattle.dy_core.specs.declared.places.Place.{Place}
use Rattle.dy_siblings.proofs.Members.{not_in_nil, in_head, in_tail, in_cases, any_gives, any_from, filter_in, filter_from}
use Rattle.dy_core.proofs.Keeping.{all_from}

-- the numbers of all are other than this one
all_differ : (f : Place → ℕ) (x : ℕ) (cs : List Place) → ((c : Place) → Contains cs c → x ≡ f c → ⊥) → AllByRecursion (λ y. nat_eq x y ≡ false) (map f cs)
all_differ f x [] none = tt
all_differ f x (c ∷ cs) none = (ne_eqb x (f c) (none c (in_head c cs)), all_differ f x cs (λ d inside. none d (in_tail c d cs inside)))

one_differs : (f : Place → ℕ) (x : ℕ) (cs : List Place) → AllByRecursion (λ y. nat_eq x y ≡ false) (map f cs) → (c : Place) → Contains cs c → x ≡ f c → ⊥
one_differs f x [] apart c inside e = absurd (not_in_nil c inside)
one_differs f x (d ∷ cs) apart c inside e =
    ⊎_elim (λ same. eqb-false x (f d) apart.0 (e ∙ ap f same)) (λ later. one_differs f x cs apart.1 c later e) (in_cases d c cs inside)

-- a part of a list of distinct numbers is one
part_distinct : (f : Place → ℕ) (t : Place → Bool) (cs : List Place) → IsDistinct nat_eq (map f cs) → IsDistinct nat_eq (map f (filter t cs))
unfolding IsDistinct
part_distinct f t [] d = tt
part_distinct f t (c ∷ cs) d =
    cond_both (t c) (c ∷ filter t cs) (filter t cs) (λ ds. IsDistinct nat_eq (map f ds))
    (λ _. (all_differ f (f c) (filter t cs) (λ e inside. one_differs f (f c) cs d.0 e (filter_from t cs e inside).0), part_distinct f t cs d.1))
    (λ _. part_distinct f t cs d.1)

all_stay : (t : Place → Bool) (cs : List Place) → ((c : Place) → Contains cs c → t c ≡ true) → length (filter t cs) ≡ length cs
all_stay t [] each = refl
all_stay t (c ∷ cs) each =
    cond_both (t c) (c ∷ filter t cs) (filter t cs) (λ ds. length ds ≡ suc (length cs))
    (λ _. ap suc (all_stay t cs (λ d inside. each d (in_tail c d cs inside))))
    (λ no. absurd (true≢false (sym (each c (in_head c cs)) ∙ no)))

-- a place that has another home and another holder does not clash, and one that does not clash has
stands_apart : (p q : Place) → (p.home ≡ q.home → ⊥) → (p.holder ≡ q.holder → ⊥) → not (clashes p q) ≡ true
stands_apart p q home holder =
    ⊎_elim
    (λ yes. absurd
    (⊎_elim (λ e. home (sym (eqb-true q.home p.home e))) (λ e. holder (sym (eqb-true q.holder p.holder e)))
    (or_cases (eqb q.home p.home) (eqb q.holder p.holder) yes)))
    (λ no. not_from_false (clashes p q) no)
    (cases_Bool (clashes p q))

other_home : (p q : Place) → not (clashes p q) ≡ true → p.home ≡ q.home → ⊥
other_home p q apart e =
    true≢false (sym (or_left (eqb q.home p.home) (eqb q.holder p.holder) (eq-eqb q.home p.home (sym e))) ∙ not-true (clashes p q) apart)

other_holder : (p q : Place) → not (clashes p q) ≡ true → p.holder ≡ q.holder → ⊥
other_holder p q apart e =
    true≢false (sym (or_right (eqb q.home p.home) (eqb q.holder p.holder) (eq-eqb q.holder p.holder (sym e))) ∙ not-true (clashes p q) apart)

-- of those chosen, all but one stand apart from it
all_but_one : (p : Place) (cs : List Place) → IsDistinct nat_eq (map (λ c. c.home) cs) → IsDistinct nat_eq (map (λ c. c.holder) cs) →
    Contains cs p → suc (length (apart_from p cs)) ≡ length cs
unfolding IsDistinct
all_but_one p [] homes holders inside = absurd (not_in_nil p inside)
all_but_one p (c ∷ cs) homes holders inside =
    cond_both (not (clashes p c)) (c ∷ apart_from p cs) (apart_from p cs) (λ ds. suc (length ds) ≡ suc (length cs))
    (λ apart.
    ⊎_elim
    (λ same. absurd (other_home p c apart (ap (λ q. q.home) same)))
    (λ later. ap suc (all_but_one p cs homes.1 holders.1 later))
    (in_cases c p cs inside))
    (λ near.
    ⊎_elim
    (λ same.
    ap suc (all_stay (λ q. not (clashes p q)) cs (λ q later.
    stands_apart p q
    (λ e. one_differs (λ c. c.home) c.home cs homes.0 q later (ap (λ q. q.home) (sym same) ∙ e))
    (λ e. one_differs (λ c. c.holder) c.holder cs holders.0 q later (ap (λ q. q.holder) (sym same) ∙ e)))))
    (λ later.
    absurd
    (true≢false
    (sym (stands_apart p c
    (λ e. one_differs (λ c. c.home) c.home cs homes.0 p later (sym e))
    (λ e. one_differs (λ c. c.holder) c.holder cs holders.0 p later (sym e))) ∙ near)))
    (in_cases c p cs inside))

pub choose_none : (places : List Place) → CanChoose places 0
unfolding IsDistinct
choose_none places =
    record {
      chosen = [];
      count_is = refl;
      are_chosen = record { inside = λ p h. absurd (not_in_nil p h); homes_distinct = tt; holders_distinct = tt };
    }

pub none_to_choose : (n : ℕ) → CanChoose [] (suc n) → ⊥
none_to_choose n can = go can.chosen can.count_is can.are_chosen.inside
  where
    go : (cs : List Place) → length cs ≡ suc n → ((p : Place) → Contains cs p → Contains [] p) → ⊥
    go [] is inside = omega (arith, is)
    go (c ∷ cs) is inside = not_in_nil c (inside c (in_head c cs))

module _ (p : Place) (places : List Place) (n : ℕ) where
  with_first : CanChoose (apart_from p places) n → CanChoose (p ∷ places) (suc n)
  unfolding IsDistinct
  with_first can =
      record {
        chosen = p ∷ can.chosen;
        count_is = ap suc can.count_is;
        are_chosen = record {
          inside = λ q h.
              ⊎_elim
              (λ same. subst (Contains (p ∷ places)) (sym same) (in_head p places))
              (λ later. in_tail p q places (from q later).0)
              (in_cases p q can.chosen h);
          homes_distinct = (all_differ (λ q. q.home) p.home can.chosen (λ q h. other_home p q (from q h).1), can.are_chosen.homes_distinct);
          holders_distinct = (all_differ (λ q. q.holder) p.holder can.chosen (λ q h. other_holder p q (from q h).1), can.are_chosen.holders_distinct);
        };
      }
    where
      from : (q : Place) → Contains can.chosen q → Contains places q × (not (clashes p q) ≡ true)
      from q h = filter_from (λ q. not (clashes p q)) places q (can.are_chosen.inside q h)

  without_first : CanChoose places n → CanChoose (p ∷ places) n
  without_first can =
      record {
        chosen = can.chosen;
        count_is = can.count_is;
        are_chosen = record {
          inside = λ q h. in_tail p q places (can.are_chosen.inside q h);
          homes_distinct = can.are_chosen.homes_distinct;
          holders_distinct = can.are_chosen.holders_distinct;
        };
      }

-- whether two places are one
same_place : Place → Place → Bool
same_place p q = eqb q.home p.home && eqb q.holder p.holder

same_is : (p q : Place) → same_place p q ≡ true → q ≡ p
unfolding same_place
same_is p q e =
    let parts = and_parts (eqb q.home p.home) (eqb q.holder p.holder) e in
    let home_is = eqb-true q.home p.home parts.0 in
    let holder_is = eqb-true q.holder p.holder parts.1 in
    λ i. record { home = home_is i; holder = holder_is i }

same_self : (p q : Place) → q ≡ p → same_place p q ≡ true
unfolding same_place
same_self p q e =
    and_from (eqb q.home p.home) (eqb q.holder p.holder)
    (eq-eqb q.home p.home (ap (λ q. q.home) e)) (eq-eqb q.holder p.holder (ap (λ q. q.holder) e))

module _ (p : Place) (places : List Place) (n : ℕ) (can : CanChoose (p ∷ places) (suc n)) where
  -- a choice that has the first has the others of those that stand apart from it
  its_rest : Contains can.chosen p → CanChoose (apart_from p places) n
  its_rest inside =
      record {
        chosen = apart_from p can.chosen;
        count_is = (let one = all_but_one p can.chosen can.are_chosen.homes_distinct can.are_chosen.holders_distinct inside in
            let all = can.count_is in omega (arith, one, all));
        are_chosen = record {
          inside = λ q h.
              let parts = filter_from (λ q. not (clashes p q)) can.chosen q h in
              ⊎_elim
              (λ same. absurd (other_home p q parts.1 (ap (λ q. q.home) (sym same))))
              (λ later. filter_in (λ q. not (clashes p q)) places q later parts.1)
              (in_cases p q places (can.are_chosen.inside q parts.0));
          homes_distinct = part_distinct (λ q. q.home) (λ q. not (clashes p q)) can.chosen can.are_chosen.homes_distinct;
          holders_distinct = part_distinct (λ q. q.holder) (λ q. not (clashes p q)) can.chosen can.are_chosen.holders_distinct;
        };
      }

  its_own : (Contains can.chosen p → ⊥) → CanChoose places (suc n)
  its_own outside =
      record {
        chosen = can.chosen;
        count_is = can.count_is;
        are_chosen = record {
          inside = λ q h.
              ⊎_elim
              (λ same. absurd (outside (subst (Contains can.chosen) same h)))
              (λ later. later)
              (in_cases p q places (can.are_chosen.inside q h));
          homes_distinct = can.are_chosen.homes_distinct;
          holders_distinct = can.are_chosen.holders_distinct;
        };
      }

  with_or_without : CanChoose (apart_from p places) n ⊎ CanChoose places (suc n)
  with_or_without =
      ⊎_elim
      (λ found.
      let f = any_gives (same_place p) can.chosen found in
      inl (its_rest (subst (Contains can.chosen) (same_is p f.item f.passes) f.in_list)))
      (λ none. inr (its_own (λ inside. true≢false (sym (any_from (same_place p) can.chosen p inside (same_self p p refl)) ∙ none))))
      (cases_Bool (list_any (same_place p) can.chosen))

-- so many can be chosen of a list where one fewer can of those apart from its first
pub choose_with : (p : Place) (places : List Place) (m n : ℕ) → m + 1 ≡ n → CanChoose (apart_from p places) m → CanChoose (p ∷ places) n
choose_with p places m n next can = subst (CanChoose (p ∷ places)) (omega (arith, next)) (with_first p places m can)

-- and where not, then exactly where so many can of the rest
pub choose_without : (p : Place) (places : List Place) (m n : ℕ) → m + 1 ≡ n → (CanChoose (apart_from p places) m → ⊥) →
    CanChoose (p ∷ places) n ↔ CanChoose places n
choose_without p places m n next none = (
  (λ can. subst (CanChoose places) is
      (⊎_elim (λ rest. absurd (none rest)) (λ own. own) (with_or_without p places m (subst (CanChoose (p ∷ places)) (sym is) can)))),
  without_first p places n,
)
  where
    is : suc m ≡ n
    is = omega (arith, next)

-- a cover is a choice of the places that cover
pub choice_is_cover : (layout : Layout) (w : World) (key : List ℕ) (d : Dot) (places : List Place) → ListsCovers w key d places →
    All (λ p. is_home (layout.homes key) p.home ≡ true) places → (n : ℕ) → CanChoose places n ↔ HasCover layout w key d n
choice_is_cover layout w key d places lists homes n = (
  (λ can.
      record {
        places = can.chosen;
        is_cover = record {
          count_is = can.count_is;
          homes_distinct = can.are_chosen.homes_distinct;
          holders_distinct = can.are_chosen.holders_distinct;
          each_home = all_from (λ p. is_home (layout.homes key) p.home ≡ true) can.chosen
              (λ p inside. All-contains (λ p. is_home (layout.homes key) p.home ≡ true) places p homes (can.are_chosen.inside p inside));
          each_covers = all_from (λ p. CoversAt w key d p.holder p.home) can.chosen (λ p inside. (lists.same p).0 (can.are_chosen.inside p inside));
        };
      }),
  (λ has.
      record {
        chosen = has.places;
        count_is = has.is_cover.count_is;
        are_chosen = record {
          inside = λ p inside. (lists.same p).1 (All-contains (λ p. CoversAt w key d p.holder p.home) has.places p has.is_cover.each_covers inside);
          homes_distinct = has.is_cover.homes_distinct;
          holders_distinct = has.is_cover.holders_distinct;
        };
      }),
)
