-- The tokens of lists: which there are, how often, and in which order.
use Rattle.std.proofs.Common.{◌≡◌, ℕ, zero, suc, ◌+◌, ◌<◌, ◌≤◌, ◌==◌, Bool, true, false, ◌&&◌, ◌||◌, cond, max, ◌^◌, List, [], ◌∷◌, ◌++◌, length, get_or, map, Some, None, refl, sym, ap, ◌∙◌, ⊎_elim, ◌⊎◌, inl, inr, arith}
use Rattle.std.specs.List.{All, list_any, count_by, concat}
use Rattle.std.specs.List.Sorted.{IsPermutation, IsNonDecreasingBy}
use Rattle.std.proofs.lemmas.List.Sorted.{All-permutation, list_any-IsPermutation, sum_by-IsPermutation}
use Rattle.std.proofs.lemmas.Bool.{eqb-true, eqb-false, eq-eqb, ne_eqb, lt-ltb, le-ltb, ltb-false, cases_order, or_right, or_parts, and_cases, both_ways}
use Rattle.std.proofs.lemmas.List.Elements.{All-nil, All-cons, All-head, All-tail, All-append, All-map, All-weaker}
use Rattle.std.proofs.lemmas.List.Folds.{list_any-append}
use Rattle.std.proofs.lemmas.List.Sums.{sum_by-append}
use Rattle.dy_ring.specs.Rings.{IsRing, Rises, has_token}
use Rattle.dy_ring.specs.Lists.{IsLeast, IsRingOf, has_clash, has_too_many, lacks_token}
use Rattle.dy_ring.specs.inside.Making.{pairs_from, clash_after, clash_of}

-- whether the token is at the position and of the node
abbrev pub is_at : ℕ → ℕ → ℕ × ℕ → Bool
is_at position node t = (t.0 == position) && (t.1 == node)

-- how many tokens lie at the position
abbrev pub count_at : ℕ → List (ℕ × ℕ) → ℕ
count_at position [] = 0
count_at position (t ∷ ts) = cond (t.0 == position) 1 0 + count_at position ts

count_cons : {X : Type 0} (p : X → Bool) (x : X) (xs : List X) → count_by p (x ∷ xs) ≡ cond (p x) 1 0 + count_by p xs
count_cons p x xs = omega (arith, sum_by-append (λ y. cond (p y) 1 0) (x ∷ []) xs)

pub count_at_is : (q : ℕ) (ts : List (ℕ × ℕ)) → count_by (λ t. t.0 == q) ts ≡ count_at q ts
count_at_is q [] = refl
count_at_is q (t ∷ ts) = count_cons (λ t. t.0 == q) t ts ∙ ap (λ n. cond (t.0 == q) 1 0 + n) (count_at_is q ts)

-- the positions never fall, from `low` on
abbrev pub Climbs : ℕ → List (ℕ × ℕ) → Type 0
Climbs low [] = Unit {0}
Climbs low (t ∷ ts) = (low ≤ t.0) × Climbs t.0 ts

pub climbs_from_sorted : (t : ℕ × ℕ) (ts : List (ℕ × ℕ)) → IsNonDecreasingBy (λ t. t.0) (t ∷ ts) → Climbs t.0 ts
climbs_from_sorted t [] up = tt
climbs_from_sorted t (u ∷ ts) up = (up 0 1 t (omega arith) (omega arith), climbs_from_sorted u ts (λ i j d le lt. up (suc i) (suc j) d (omega arith) (omega arith)))

-- a position below all is nobody's
count_below : (low q : ℕ) (ts : List (ℕ × ℕ)) → Climbs low ts → q < low → count_at q ts ≡ 0
count_below low q [] up lt = refl
count_below low q (t ∷ ts) up lt =
    let later : count_at q ts ≡ 0 = count_below t.0 q ts up.1 (omega (arith, up.0)) in
    let here : (t.0 == q) ≡ false = ne_eqb t.0 q (λ e. omega (arith, up.0)) in
    rw (here, later) refl

all_above : (q : ℕ) (ts : List (ℕ × ℕ)) → All (λ t. q < t.0) ts → count_at q ts ≡ 0
all_above q [] all = refl
all_above q (t ∷ ts) all =
    let first : q < t.0 = All-head (λ t. q < t.0) t ts all in
    let later : count_at q ts ≡ 0 = all_above q ts (All-tail (λ t. q < t.0) t ts all) in
    let here : (t.0 == q) ≡ false = ne_eqb t.0 q (λ e. omega arith) in
    rw (here, later) refl

-- where positions rise, each comes once at most
pub count_rising : (q : ℕ) (ts : List (ℕ × ℕ)) → Rises (λ t. t.0) ts → count_at q ts ≤ 1
count_rising q [] rise = omega arith
count_rising q (t ∷ ts) rise = go (count_rising q ts rise.1) (t.0 == q) refl
  where
    go : count_at q ts ≤ 1 → (b : Bool) → (t.0 == q) ≡ b → count_at q (t ∷ ts) ≤ 1
    go few true is =
        let e : t.0 ≡ q = eqb-true t.0 q is in
        let later : count_at q ts ≡ 0 = all_above q ts (rw (← e) rise.0) in
        rw (is, later) (omega arith)
    go few false is = rw is (omega arith)

-- no two in a row: the positions rise
rises_from_none : (last : ℕ) (ts : List (ℕ × ℕ)) → Climbs last ts → clash_after last ts ≡ None → All (λ t. last < t.0) ts × Rises (λ t. t.0) ts
rises_from_none last [] up none = (All-nil (λ t. last < t.0), tt)
rises_from_none last (t ∷ ts) up none = go (rises_from_none t.0 ts up.1) (t.0 == last) refl
  where
    go : (clash_after t.0 ts ≡ None → All (λ u. t.0 < u.0) ts × Rises (λ u. u.0) ts) → (b : Bool) → (t.0 == last) ≡ b → All (λ t. last < t.0) (t ∷ ts) × Rises (λ t. t.0) (t ∷ ts)
    go later true is = absurd (let h = rw is at none in cc)
    go later false is =
        let ne = eqb-false t.0 last is in
        let lt : last < t.0 = omega (arith, up.0, ne) in
        let rest = later (rw is at none) in
        (All-cons (λ t. last < t.0) t ts lt (All-weaker (λ u. t.0 < u.0) (λ u. last < u.0) (λ u h. omega arith) ts rest.0), (rest.0, rest.1))

-- two in a row: at no lower position are there two
pub record IsFirstClash (last : ℕ) (ts : List (ℕ × ℕ)) (p : ℕ) : Type 0 where
  pub later : last ≤ p
  pub twice : 1 < cond (last == p) 1 0 + count_at p ts
  pub least : (q : ℕ) → q < p → cond (last == q) 1 0 + count_at q ts ≤ 1

least_of : (last p : ℕ) (ts : List (ℕ × ℕ)) (h : IsFirstClash last ts p) (q : ℕ) → q < p → cond (last == q) 1 0 + count_at q ts ≤ 1
least_of last p ts h q lt = h.least q lt

clash_from_some : (last p : ℕ) (ts : List (ℕ × ℕ)) → Climbs last ts → clash_after last ts ≡ Some p → IsFirstClash last ts p
clash_from_some last p [] up some = absurd (cc)
clash_from_some last p (t ∷ ts) up some = go (clash_from_some t.0 p ts up.1) (t.0 == last) refl
  where
    least : last < t.0 → IsFirstClash t.0 ts p → (q : ℕ) → q < p → (b : Bool) → (last == q) ≡ b → cond (last == q) 1 0 + count_at q (t ∷ ts) ≤ 1
    least lt rest q below true same =
        let e : last ≡ q = eqb-true last q same in
        let none : count_at q (t ∷ ts) ≡ 0 = count_below t.0 q (t ∷ ts) (omega arith, up.1) (omega arith) in
        rw (same, none) (omega arith)
    least lt rest q below false same =
        let h : cond (t.0 == q) 1 0 + count_at q ts ≤ 1 = least_of t.0 p ts rest q below in
        rw same (omega arith)

    go : (clash_after t.0 ts ≡ Some p → IsFirstClash t.0 ts p) → (b : Bool) → (t.0 == last) ≡ b → IsFirstClash last (t ∷ ts) p
    go later true is =
        let e : t.0 ≡ last = eqb-true t.0 last is in
        let same : last ≡ p = let h = rw is at some in cc in
        record {
          later = omega arith;
          twice =
              let a : (last == p) ≡ true = eq-eqb last p same in
              let b : (t.0 == p) ≡ true = eq-eqb t.0 p (e ∙ same) in
              rw (a, b) (omega arith);
          least = λ q lt.
              let a : (last == q) ≡ false = ne_eqb last q (λ h. omega arith) in
              let b : count_at q (t ∷ ts) ≡ 0 = count_below last q (t ∷ ts) up (omega arith) in
              rw (a, b) (omega arith);
        }
    go later false is =
        let ne = eqb-false t.0 last is in
        let lt : last < t.0 = omega (arith, up.0, ne) in
        let rest : IsFirstClash t.0 ts p = later (rw is at some) in
        let two : 1 < cond (t.0 == p) 1 0 + count_at p ts = rest.twice in
        record {
          later = omega (arith, rest.later);
          twice = omega arith;
          least = λ q below. least lt rest q below (last == q) refl;
        }

-- the two outcomes over a whole sorted list
pub rises_of : (ts : List (ℕ × ℕ)) → IsNonDecreasingBy (λ t. t.0) ts → clash_of ts ≡ None → Rises (λ t. t.0) ts
rises_of [] up none = tt
rises_of (t ∷ ts) up none = rises_from_none t.0 ts (climbs_from_sorted t ts up) none

pub clash_twice : (p : ℕ) (ts : List (ℕ × ℕ)) → IsNonDecreasingBy (λ t. t.0) ts → clash_of ts ≡ Some p → 1 < count_at p ts
clash_twice p [] up some = absurd (cc)
clash_twice p (t ∷ ts) up some = (clash_from_some t.0 p ts (climbs_from_sorted t ts up) some).twice

pub clash_least : (p q : ℕ) (ts : List (ℕ × ℕ)) → IsNonDecreasingBy (λ t. t.0) ts → clash_of ts ≡ Some p → q < p → count_at q ts ≤ 1
clash_least p q [] up some lt = absurd (cc)
clash_least p q (t ∷ ts) up some lt = (clash_from_some t.0 p ts (climbs_from_sorted t ts up) some).least q lt

-- a position is as often among the pairs as in the lists
count_paired : (q n : ℕ) (list : List ℕ) → count_by (λ (t : ℕ × ℕ). t.0 == q) (map (λ p. (p, n)) list) ≡ count_by (λ (x : ℕ). x == q) list
count_paired q n [] = refl
count_paired q n (p ∷ list) =
    count_cons (λ (t : ℕ × ℕ). t.0 == q) (p, n) (map (λ p. (p, n)) list)
    ∙ ap (λ m. cond (p == q) 1 0 + m) (count_paired q n list)
    ∙ sym (count_cons (λ (x : ℕ). x == q) p list)

count_pairs : (q n : ℕ) (lists : List (List ℕ)) → count_by (λ (t : ℕ × ℕ). t.0 == q) (pairs_from n lists) ≡ count_by (λ (x : ℕ). x == q) (concat lists)
count_pairs q n [] = refl
count_pairs q n (list ∷ lists) =
    let a : count_by (λ (t : ℕ × ℕ). t.0 == q) (map (λ p. (p, n)) list ++ pairs_from (n + 1) lists) ≡ count_by (λ (t : ℕ × ℕ). t.0 == q) (map (λ p. (p, n)) list) + count_by (λ (t : ℕ × ℕ). t.0 == q) (pairs_from (n + 1) lists) = sum_by-append (λ (t : ℕ × ℕ). cond (t.0 == q) 1 0) (map (λ p. (p, n)) list) (pairs_from (n + 1) lists) in
    let b : count_by (λ (x : ℕ). x == q) (list ++ concat lists) ≡ count_by (λ (x : ℕ). x == q) list + count_by (λ (x : ℕ). x == q) (concat lists) = sum_by-append (λ p. cond (p == q) 1 0) list (concat lists) in
    omega (arith, a, b, count_paired q n list, count_pairs q (n + 1) lists)

-- and stays so, in any order
pub count_sorted : (q : ℕ) (lists : List (List ℕ)) (ts : List (ℕ × ℕ)) → IsPermutation (pairs_from 0 lists) ts → count_by (λ (x : ℕ). x == q) (concat lists) ≡ count_at q ts
count_sorted q lists ts perm =
    sym (count_pairs q 0 lists)
    ∙ sym (sum_by-IsPermutation (λ (t : ℕ × ℕ). cond (t.0 == q) 1 0) (pairs_from 0 lists) ts perm)
    ∙ count_at_is q ts

-- the pairs of a node are those of its list
any_paired : (q m n : ℕ) (list : List ℕ) → n ≡ m → list_any (is_at q m) (map (λ p. (p, n)) list) ≡ list_any (λ p. p == q) list
any_paired q m n [] e = refl
any_paired q m n (p ∷ list) e =
    let same : (n == m) ≡ true = eq-eqb n m e in
    let rest = any_paired q m n list e in
    rw (same, rest) (and_true (p == q) (list_any (λ p. p == q) list))
  where
    and_true : (a b : Bool) → ((a && true) || b) ≡ (a || b)
    and_true true b = refl
    and_true false b = refl

none_paired : (q m n : ℕ) (list : List ℕ) → (n ≡ m → ⊥) → list_any (is_at q m) (map (λ p. (p, n)) list) ≡ false
none_paired q m n [] ne = refl
none_paired q m n (p ∷ list) ne =
    let other : (n == m) ≡ false = ne_eqb n m ne in
    let rest = none_paired q m n list ne in
    rw (other, rest) (and_false (p == q))
  where
    and_false : (a : Bool) → ((a && false) || false) ≡ false
    and_false true = refl
    and_false false = refl

none_before : (q m n : ℕ) (lists : List (List ℕ)) → m < n → list_any (is_at q m) (pairs_from n lists) ≡ false
none_before q m n [] lt = refl
none_before q m n (list ∷ lists) lt =
    let a = none_paired q m n list (λ e. omega arith) in
    let b = none_before q m (n + 1) lists (omega arith) in
    list_any-append (is_at q m) (map (λ p. (p, n)) list) (pairs_from (n + 1) lists) ∙ rw (a, b) refl

pub any_pairs : (q m n k : ℕ) (lists : List (List ℕ)) → m ≡ n + k → list_any (is_at q m) (pairs_from n lists) ≡ list_any (λ p. p == q) (get_or lists k [])
any_pairs q m n k [] e = refl
any_pairs q m n zero (list ∷ lists) e =
    let a = any_paired q m n list (omega arith) in
    let b = none_before q m (n + 1) lists (omega arith) in
    list_any-append (is_at q m) (map (λ p. (p, n)) list) (pairs_from (n + 1) lists) ∙ rw (a, b) (or_false (list_any (λ p. p == q) list))
  where
    or_false : (a : Bool) → (a || false) ≡ a
    or_false true = refl
    or_false false = refl
any_pairs q m n (suc k) (list ∷ lists) e =
    let a = none_paired q m n list (λ h. omega arith) in
    let b = any_pairs q m (n + 1) k lists (omega arith) in
    list_any-append (is_at q m) (map (λ p. (p, n)) list) (pairs_from (n + 1) lists) ∙ rw (a, b) refl

-- a node with a list that isn't empty has a token
pub has_pair : (m n k : ℕ) (lists : List (List ℕ)) → m ≡ n + k → (length (get_or lists k []) == 0) ≡ false → has_token (pairs_from n lists) m ≡ true
has_pair m n k [] e some = absurd (both_ways _ some refl)
has_pair m n zero ([] ∷ lists) e some = absurd (both_ways _ some refl)
has_pair m n zero ((p ∷ ps) ∷ lists) e some = let same : (n == m) ≡ true = eq-eqb n m (omega arith) in rw same refl
has_pair m n (suc k) (list ∷ lists) e some =
    list_any-append (λ t. t.1 == m) (map (λ p. (p, n)) list) (pairs_from (n + 1) lists)
    ∙ or_right (list_any (λ t. t.1 == m) (map (λ p. (p, n)) list)) _ (has_pair m (n + 1) k lists (omega arith) some)

pub of_nodes : (n m : ℕ) (lists : List (List ℕ)) → m ≡ n + length lists → All (λ t. t.1 < m) (pairs_from n lists)
of_nodes n m [] e = All-nil (λ t. t.1 < m)
of_nodes n m (list ∷ lists) e =
    All-append (λ t. t.1 < m) (map (λ p. (p, n)) list) (pairs_from (n + 1) lists)
    (All-map (λ (t : ℕ × ℕ). t.1 < m) (λ p. (p, n)) list (λ k d lt. omega arith))
    (of_nodes (n + 1) m lists (omega arith))

-- what a clash among the sorted pairs says of the lists
pub least_clash : (lists : List (List ℕ)) (ts : List (ℕ × ℕ)) (p : ℕ) → IsPermutation (pairs_from 0 lists) ts → IsNonDecreasingBy (λ t. t.0) ts → Some p ≡ clash_of ts → IsLeast (has_clash lists) p
least_clash lists ts p perm up some = (
  let h = clash_twice p ts up (sym some) in
      let e = count_sorted p lists ts perm in
      lt-ltb 1 _ (omega (arith, h, e)),
  λ q lt.
      let h = clash_least p q ts up (sym some) lt in
      let e = count_sorted q lists ts perm in
      le-ltb 1 _ (omega (arith, h, e)),
)

pub no_clash : (lists : List (List ℕ)) (ts : List (ℕ × ℕ)) (q : ℕ) → IsPermutation (pairs_from 0 lists) ts → Rises (λ t. t.0) ts → has_clash lists q ≡ false
no_clash lists ts q perm rise =
    let h = count_rising q ts rise in
    let e = count_sorted q lists ts perm in
    le-ltb 1 _ (omega (arith, h, e))

pub least_unique : (test : ℕ → Bool) (p q : ℕ) → IsLeast test p → IsLeast test q → p ≡ q
least_unique test p q a b = go (cases_order p q)
  where
    go : (p ≡ q) ⊎ ((p < q) ⊎ (q < p)) → p ≡ q
    go (inl e) = e
    go (inr (inl lt)) = absurd (both_ways (test p) (b.1 p lt) a.0)
    go (inr (inr lt)) = absurd (both_ways (test q) (a.1 q lt) b.0)

-- the pairs of lists, put in rising order, are a ring: the lists' ring
pub ring_from_pairs : (lists : List (List ℕ)) (tokens : List (ℕ × ℕ)) → has_too_many lists ≡ false → ((node : ℕ) → lacks_token lists node ≡ false) → IsPermutation (pairs_from 0 lists) tokens → Rises (λ t. t.0) tokens → All (λ t. t.0 < 2 ^ 128) tokens → IsRing (record { nodes = length lists; tokens = tokens }) × IsRingOf lists (record { nodes = length lists; tokens = tokens })
ring_from_pairs lists tokens few filled perm rise small = (
  record {
    some = some;
    few = few_nodes;
    rising = rise;
    positions = small;
    of_nodes = All-permutation (λ t. t.1 < length lists) (pairs_from 0 lists) tokens perm (of_nodes 0 (length lists) lists (omega arith));
    each_has = λ node lt.
        sym (list_any-IsPermutation (λ t. t.1 == node) (pairs_from 0 lists) tokens perm)
        ∙ has_pair node 0 node lists (omega arith) (has_at node lt);
  },
  record {
    nodes_are = refl;
    tokens_are = λ position node.
        sym (list_any-IsPermutation (is_at position node) (pairs_from 0 lists) tokens perm) ∙ any_pairs position node 0 node lists (omega arith);
  },
)
  where
    lacks_none : (n : ℕ) → n ≡ length lists → 1 ≤ n
    lacks_none zero e = absurd (both_ways _ (filled 0) (none lists (sym e)))
      where
        none : (l : List (List ℕ)) → length l ≡ 0 → lacks_token l 0 ≡ true
        none [] h = refl
        none (x ∷ l) h = absurd (omega arith)
    lacks_none (suc n) e = omega arith

    some : 1 ≤ length lists
    some = lacks_none (length lists) refl

    few_nodes : length lists ≤ 32
    few_nodes = ltb-false 32 (length lists) (or_parts _ _ few).0

    has_at : (node : ℕ) → node < length lists → (length (get_or lists node []) == 0) ≡ false
    has_at node lt = ⊎_elim (λ a. absurd (both_ways _ a (lt-ltb node (max 1 (length lists)) (omega arith)))) (λ b. b) (and_cases _ _ (filled node))
