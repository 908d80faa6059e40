-- The runs along the dots of a set are its maximal runs.
use Rattle.std.proofs.Common.{◌≡◌, ℕ, zero, suc, ◌+◌, ◌<◌, ◌≤◌, ◌==◌, Bool, true, false, ◌&&◌, ◌||◌, List, [], ◌∷◌, refl, sym, ap, ◌∙◌, inl, inr, ◌⊎◌, arith, subst, if◌then◌else◌, nat_lt, ◌↔◌}
use Rattle.std.proofs.lemmas.Bool.{true≢false, ltb-true}
use Rattle.std.proofs.lemmas.Bool.Decides.{nat_tests}
use Rattle.std.specs.List.{list_any}
use Rattle.std.specs.FinSet as set
use Rattle.dy_dots.specs.Dots.{DotSet, AreDots, same_dot, comes_before, placed, in_order, dots_of}
use Rattle.dy_dots.specs.Runs.{single}
use Rattle.dy_dots.specs.Runs.{in_run, in_runs, StartsFrom, RiseFrom, AreApart, AreRunsOf}
use Rattle.dy_dots.specs.Spelling.{runs_from, runs_along, runs_text, context_text, Spells}
use Rattle.dy_dots.specs.declared.dots.Dot.{Dot}
use Rattle.dy_dots.specs.declared.runs.Run.{Run}
use Rattle.dy_dots.proofs.Lists.{or_assoc, starts_zero}
use Rattle.dy_dots.proofs.Sets.{same_place}
use Rattle.dy_dots.proofs.Unique.{same_runs}

-- dots that rise, from a node and a counter on
abbrev pub RiseOn : ℕ → ℕ → List Dot → Type 0
RiseOn n c [] = Unit {0}
RiseOn n c (d ∷ ds) = ((n < d.node) ⊎ ((n ≡ d.node) × (c ≤ d.counter))) × RiseOn d.node (d.counter + 1) ds

starts_like : (n c : ℕ) (r : Run) (last : ℕ) → StartsFrom n c r → StartsFrom n c (record { node = r.node; first = r.first; last = last })
starts_like n c r last (inl p) = inl p
starts_like n c r last (inr p) = inr p

starts_past : (r : Run) (d : Dot) → ((r.node == d.node) && (d.counter == r.last + 1)) ≡ false → (r.node < d.node) ⊎ ((r.node ≡ d.node) × (r.last + 1 ≤ d.counter)) → StartsFrom r.node (r.last + 2) (single d)
starts_past r d apart (inl p) = inl p
starts_past r d apart (inr p) = inr (p.0, past r.node d.node r.last d.counter apart p.0 p.1)
  where
    past : (n m l k : ℕ) → ((n == m) && (k == l + 1)) ≡ false → n ≡ m → l + 1 ≤ k → l + 2 ≤ k
    past n m l k e same low = grind (arith, nat_tests)

next_of : (r : Run) (d : Dot) → ((r.node == d.node) && (d.counter == r.last + 1)) ≡ true → (r.node ≡ d.node) × (d.counter ≡ r.last + 1)
next_of r d e = (grind (arith, nat_tests), grind (arith, nat_tests))

rises : (n c : ℕ) (r : Run) (ds : List Dot) → StartsFrom n c r → r.first ≤ r.last → RiseOn r.node (r.last + 1) ds → RiseFrom n c (runs_from r ds)
rises n c r [] starts valid on = (starts, valid, tt)
rises n c r (d ∷ ds) starts valid on = go ((r.node == d.node) && (d.counter == r.last + 1)) refl (λ m k x. rises m k x ds)
  where
    go : (b : Bool) → ((r.node == d.node) && (d.counter == r.last + 1)) ≡ b → ((m k : ℕ) (x : Run) → StartsFrom m k x → x.first ≤ x.last → RiseOn x.node (x.last + 1) ds → RiseFrom m k (runs_from x ds)) → RiseFrom n c (if b then runs_from (record { node = r.node; first = r.first; last = d.counter }) ds else r ∷ runs_from (single d) ds)
    go true e more =
        let next = next_of r d e in
        more n c (record { node = r.node; first = r.first; last = d.counter }) (starts_like n c r d.counter starts) (omega (arith, next.1)) (subst (λ m. RiseOn m (d.counter + 1) ds) (sym next.0) on.1)
    go false e more = (starts, valid, more r.node (r.last + 2) (single d) (starts_past r d e on.0) (omega arith) on.1)

in_longer : (r : Run) (d q : Dot) → r.node ≡ d.node → d.counter ≡ r.last + 1 → r.first ≤ r.last → in_run (record { node = r.node; first = r.first; last = d.counter }) q ≡ (in_run r q || in_run (single d) q)
in_longer r d q same next valid = grind (arith, nat_tests)

in_one : (d q : Dot) → in_run (single d) q ≡ same_dot q d
in_one d q = grind (arith, nat_tests)

members : (r : Run) (ds : List Dot) (q : Dot) → r.first ≤ r.last → in_runs (runs_from r ds) q ≡ (in_run r q || list_any (same_dot q) ds)
members r [] q valid = refl
members r (d ∷ ds) q valid = go ((r.node == d.node) && (d.counter == r.last + 1)) refl (λ x. members x ds q)
  where
    one : in_run (single d) q ≡ same_dot q d
    one = in_one d q

    go : (b : Bool) → ((r.node == d.node) && (d.counter == r.last + 1)) ≡ b → ((x : Run) → x.first ≤ x.last → in_runs (runs_from x ds) q ≡ (in_run x q || list_any (same_dot q) ds)) → in_runs (if b then runs_from (record { node = r.node; first = r.first; last = d.counter }) ds else r ∷ runs_from (single d) ds) q ≡ (in_run r q || (same_dot q d || list_any (same_dot q) ds))
    go true e more =
        let next = next_of r d e in
        more (record { node = r.node; first = r.first; last = d.counter }) (omega (arith, next.1))
        ∙ ap (λ b. b || list_any (same_dot q) ds) (in_longer r d q next.0 next.1 valid)
        ∙ or_assoc (in_run r q) (in_run (single d) q) _
        ∙ ap (λ b. in_run r q || (b || list_any (same_dot q) ds)) one
    go false e more =
        ap (λ b. in_run r q || b) (more (single d) (omega arith))
        ∙ ap (λ b. in_run r q || (b || list_any (same_dot q) ds)) one

or_split : (a b : Bool) (P : Type 0) → (a || b) ≡ true → (a ≡ true → P) → (b ≡ true → P) → P
or_split true b P e p q = p refl
or_split false b P e p q = q e

goes_on : (d x : Dot) → comes_before d x ≡ true → (d.node < x.node) ⊎ ((d.node ≡ x.node) × (d.counter + 1 ≤ x.counter))
goes_on d x e =
    or_split (nat_lt d.node x.node) _ _ e (λ p. inl (ltb-true _ _ p)) (λ p. inr (grind (arith, nat_tests), grind (arith, nat_tests)))

turned : (d x : Dot) → comes_before d x ≡ false → same_dot d x ≡ false → comes_before x d ≡ true
turned d x p q = grind (arith, nat_tests)

placed_rise : (n c : ℕ) (d : Dot) (xs : List Dot) → RiseOn n c xs → (n < d.node) ⊎ ((n ≡ d.node) × (c ≤ d.counter)) → RiseOn n c (placed d xs)
placed_rise n c d [] rise starts = (starts, tt)
placed_rise n c d (x ∷ xs) rise starts = go (comes_before d x) refl (same_dot d x) refl (placed_rise x.node (x.counter + 1) d xs rise.1)
  where
    go : (a : Bool) → comes_before d x ≡ a → (b : Bool) → same_dot d x ≡ b → ((x.node < d.node) ⊎ ((x.node ≡ d.node) × (x.counter + 1 ≤ d.counter)) → RiseOn x.node (x.counter + 1) (placed d xs)) → RiseOn n c (if a then d ∷ x ∷ xs else if b then x ∷ xs else x ∷ placed d xs)
    go true e b f more = (starts, (goes_on d x e, rise.1))
    go false e true f more = rise
    go false e false f more = (rise.0, more (goes_on x d (turned d x e f)))

same_for : (d x q : Dot) → same_dot d x ≡ true → same_dot q d ≡ same_dot q x
same_for d x q e = grind (arith, nat_tests)

or_twice : (a b c : Bool) → a ≡ b → (b || c) ≡ (a || (b || c))
or_twice true true c e = refl
or_twice false false c e = refl
or_twice true false c e = absurd (true≢false e)
or_twice false true c e = absurd (true≢false (sym e))

or_swap : (a b c : Bool) → (b || (a || c)) ≡ (a || (b || c))
or_swap true true c = refl
or_swap true false c = refl
or_swap false b c = refl

placed_members : (d q : Dot) (xs : List Dot) → list_any (same_dot q) (placed d xs) ≡ (same_dot q d || list_any (same_dot q) xs)
placed_members d q [] = refl
placed_members d q (x ∷ xs) = go (comes_before d x) (same_dot d x) refl (placed_members d q xs)
  where
    go : (a b : Bool) → same_dot d x ≡ b → list_any (same_dot q) (placed d xs) ≡ (same_dot q d || list_any (same_dot q) xs) → list_any (same_dot q) (if a then d ∷ x ∷ xs else if b then x ∷ xs else x ∷ placed d xs) ≡ (same_dot q d || (same_dot q x || list_any (same_dot q) xs))
    go true b f more = refl
    go false true f more = or_twice _ _ _ (same_for d x q f)
    go false false f more = ap (λ b. same_dot q x || b) more ∙ or_swap (same_dot q d) (same_dot q x) _

order_rises : (ds : List Dot) → RiseOn 0 0 (in_order ds)
order_rises [] = tt
order_rises (d ∷ ds) = placed_rise 0 0 d (in_order ds) (order_rises ds) (from_zero d.node d.counter)
  where
    from_zero : (m k : ℕ) → (0 < m) ⊎ ((0 ≡ m) × (0 ≤ k))
    from_zero zero k = inr (refl, omega arith)
    from_zero (suc m) k = inl (omega arith)

order_members : (q : Dot) (ds : List Dot) → list_any (same_dot q) (in_order ds) ≡ list_any (same_dot q) ds
order_members q [] = refl
order_members q (d ∷ ds) = placed_members d q (in_order ds) ∙ ap (λ b. same_dot q d || b) (order_members q ds)

along_apart : (ds : List Dot) → RiseOn 0 0 ds → AreApart (runs_along ds)
along_apart [] rise = tt
along_apart (d ∷ ds) rise = rises 0 0 (single d) ds (starts_zero (single d)) (omega arith) rise.1

along_members : (ds : List Dot) (q : Dot) → in_runs (runs_along ds) q ≡ list_any (same_dot q) ds
along_members [] q = refl
along_members (d ∷ ds) q = members (single d) ds q (omega arith) ∙ ap (λ b. b || list_any (same_dot q) ds) (in_one d q)

-- the runs along a set's dots are its maximal runs
pub runs_of_dots : (s : DotSet) → AreRunsOf (runs_along (dots_of s)) s
runs_of_dots s = record {
  apart = along_apart (dots_of s) (order_rises (set.items s));
  members = λ q.
      set.contains-items s q
      ∙ (λ i. list_any (λ d. same_place q d i) (set.items s))
      ∙ sym (order_members q (set.items s))
      ∙ sym (along_members (dots_of s) q);
}

pub text_is : (rs : List Run) (s : DotSet) → AreRunsOf rs s → runs_text rs ≡ context_text s
text_is rs s are =
    let own : AreRunsOf (runs_along (dots_of s)) s = runs_of_dots s in
    ap runs_text (same_runs 0 0 rs (runs_along (dots_of s)) are.apart own.apart (λ d. sym (are.members d) ∙ own.members d))

pub spelled_by_text : (bytes : List ℕ) (s : DotSet) → Spells bytes s ↔ (AreDots s × (bytes ≡ context_text s))
spelled_by_text bytes s = (
  λ p. (p.are_dots, p.bytes_are ∙ text_is p.runs s p.are_runs),
  λ p. record { runs = runs_along (dots_of s); are_runs = runs_of_dots s; are_dots = p.0; bytes_are = p.1 },
)
