-- Distances on a ring, and the walk that meets each node at its nearest token.
use Rattle.std.proofs.Common.{◌≡◌, ℕ, suc, ◌+◌, ◌^◌, ◌<◌, ◌≤◌, ◌==◌, min, map, fold, nat_lt, Bool, true, false, ◌||◌, if◌then◌else◌, List, [], ◌∷◌, ◌++◌, length, get_or, take, drop, refl, sym, ap, ◌∙◌, subst, ◌⊎◌, inl, inr, arith, take-append-drop}
use Rattle.std.specs.List.{All, filter}
use Rattle.std.proofs.lemmas.Bool.{eqb-true, eq-eqb, ne_eqb, lt-ltb, le-ltb, cases_lt, both_ways, or_parts}
use Rattle.std.proofs.lemmas.List.{at_drop_more}
use Rattle.std.proofs.lemmas.List.Elements.{All-nil, All-cons, All-head, All-tail, All-append, All-weaker, All-drop}
use Rattle.std.proofs.lemmas.List.Folds.{list_any-append, list_any_none}
use Rattle.dy_ring.specs.Rings.{Tokens, IsRing, Rises, has_token, distance_to, node_distance}
use Rattle.dy_preference.specs.Preferences.{IsByDistance, nodes_by}
use Rattle.dy_preference.specs.inside.Walks.{met}
use Rattle.dy_preference.proofs.Rising.{has, rises_append, rises_take, rises_drop, rises_by, same_by, same_rising, distinct_rising, has_nodes, length_nodes, rises_nodes}

-- a token past the position
distance_ahead : (p t : ℕ) → p < t → t < 2 ^ 128 → distance_to p t + p + 1 ≡ t
distance_ahead p t lt small = omega arith

-- a token at the position or before
distance_passed : (p t : ℕ) → t ≤ p → p < 2 ^ 128 → distance_to p t + p + 1 ≡ t + 2 ^ 128
distance_passed p t le small = omega arith

pub distance_small : (p t : ℕ) → distance_to p t < 2 ^ 128
distance_small p t = omega arith

-- the tokens past the position, and then the others, rise by distance
pub turned_rises : (p i : ℕ) (ts : List (ℕ × ℕ)) → p < 2 ^ 128 → Rises (λ t. t.0) ts → All (λ t. t.0 < 2 ^ 128) ts → All (λ t. t.0 ≤ p) (take i ts) → All (λ t. p < t.0) (drop i ts) → Rises (λ t. distance_to p t.0) (drop i ts ++ take i ts)
turned_rises p i ts small rise each passed ahead =
    rises_append (λ t. distance_to p t.0) (drop i ts) (take i ts)
    (rises_by (λ t. t.0) (λ t. distance_to p t.0) (λ t. (p < t.0) × (t.0 < 2 ^ 128)) further (drop i ts) (λ k d lt. (ahead k d lt, All-drop (λ t. t.0 < 2 ^ 128) i ts each k d lt)) (rises_drop (λ t. t.0) i ts rise))
    (rises_by (λ t. t.0) (λ t. distance_to p t.0) (λ t. t.0 ≤ p) later (take i ts) passed (rises_take (λ t. t.0) i ts rise))
    (λ k d lt j e in'. over (get_or (drop i ts) k d) (get_or (take i ts) j e) (ahead k d lt) (All-drop (λ t. t.0 < 2 ^ 128) i ts each k d lt) (passed j e in'))
  where
    further : (t u : ℕ × ℕ) → (p < t.0) × (t.0 < 2 ^ 128) → (p < u.0) × (u.0 < 2 ^ 128) → t.0 < u.0 → distance_to p t.0 < distance_to p u.0
    further t u a b lt = let h = distance_ahead p t.0 a.0 a.1 in let k = distance_ahead p u.0 b.0 b.1 in omega arith

    later : (t u : ℕ × ℕ) → t.0 ≤ p → u.0 ≤ p → t.0 < u.0 → distance_to p t.0 < distance_to p u.0
    later t u a b lt = let h = distance_passed p t.0 a small in let k = distance_passed p u.0 b small in omega arith

    over : (t u : ℕ × ℕ) → p < t.0 → t.0 < 2 ^ 128 → u.0 ≤ p → distance_to p t.0 < distance_to p u.0
    over t u a s b = let h = distance_ahead p t.0 a s in let k = distance_passed p u.0 b small in omega arith

-- the least distance of a node's tokens
abbrev pub nearest : ℕ → ℕ → List (ℕ × ℕ) → ℕ
nearest p n [] = 2 ^ 128
nearest p n (t ∷ ts) = if t.1 == n then min (distance_to p t.0) (nearest p n ts) else nearest p n ts

near_small : (p n : ℕ) (ts : List (ℕ × ℕ)) → nearest p n ts ≤ 2 ^ 128
near_small p n [] = omega arith
near_small p n (t ∷ ts) = go (near_small p n ts) (t.1 == n) refl
  where
    go : nearest p n ts ≤ 2 ^ 128 → (c : Bool) → (t.1 == n) ≡ c → nearest p n (t ∷ ts) ≤ 2 ^ 128
    go later true is = rw is (omega arith)
    go later false is = rw is later

-- the fold of the definition takes the least
fold_least : (p n a : ℕ) (ts : List (ℕ × ℕ)) → a ≤ 2 ^ 128 → fold min a (map (λ t. distance_to p t.0) (filter (λ t. t.1 == n) ts)) ≡ min a (nearest p n ts)
fold_least p n a [] le = omega arith
fold_least p n a (t ∷ ts) le = go (λ b l. fold_least p n b ts l) (t.1 == n) refl
  where
    go : ((b : ℕ) → b ≤ 2 ^ 128 → fold min b (map (λ (t : ℕ × ℕ). distance_to p t.0) (filter (λ t. t.1 == n) ts)) ≡ min b (nearest p n ts)) → (c : Bool) → (t.1 == n) ≡ c → fold min a (map (λ (t : ℕ × ℕ). distance_to p t.0) (filter (λ t. t.1 == n) (t ∷ ts))) ≡ min a (nearest p n (t ∷ ts))
    go later true is = let h = later (min a (distance_to p t.0)) (omega arith) in rw is (h ∙ omega arith)
    go later false is = rw is (later a le)

pub distance_is : (ring : Tokens) (p n : ℕ) → node_distance ring p n ≡ nearest p n ring.tokens
distance_is ring p n = let h = near_small p n ring.tokens in fold_least p n (2 ^ 128) ring.tokens (omega arith) ∙ omega arith

near_append : (p n : ℕ) (xs ys : List (ℕ × ℕ)) → nearest p n (xs ++ ys) ≡ min (nearest p n xs) (nearest p n ys)
near_append p n [] ys = let h = near_small p n ys in omega arith
near_append p n (t ∷ xs) ys = go (near_append p n xs ys) (t.1 == n) refl
  where
    go : nearest p n (xs ++ ys) ≡ min (nearest p n xs) (nearest p n ys) → (c : Bool) → (t.1 == n) ≡ c → nearest p n (t ∷ xs ++ ys) ≡ min (nearest p n (t ∷ xs)) (nearest p n ys)
    go later true is = rw is (omega arith)
    go later false is = rw is later

-- a turned list has the same nearest tokens, and tokens of the same nodes
near_turned : (p n i : ℕ) (ts : List (ℕ × ℕ)) → nearest p n (drop i ts ++ take i ts) ≡ nearest p n ts
near_turned p n i ts =
    let a = near_append p n (drop i ts) (take i ts) in
    let b = near_append p n (take i ts) (drop i ts) in
    let e : nearest p n (take i ts ++ drop i ts) ≡ nearest p n ts = ap (nearest p n) (take-append-drop i ts) in
    omega arith

token_turned : (n i : ℕ) (ts : List (ℕ × ℕ)) → has_token (drop i ts ++ take i ts) n ≡ has_token ts n
token_turned n i ts =
    let a = list_any-append (λ (t : ℕ × ℕ). t.1 == n) (drop i ts) (take i ts) in
    let b = list_any-append (λ (t : ℕ × ℕ). t.1 == n) (take i ts) (drop i ts) in
    a ∙ flips (has_token (drop i ts) n) (has_token (take i ts) n) ∙ sym b ∙ ap (λ l. has_token l n) (take-append-drop i ts)
  where
    flips : (a b : Bool) → (a || b) ≡ (b || a)
    flips true true = refl
    flips true false = refl
    flips false true = refl
    flips false false = refl

near_above : (p n low : ℕ) (ts : List (ℕ × ℕ)) → low < 2 ^ 128 → All (λ t. low < distance_to p t.0) ts → low < nearest p n ts
near_above p n low [] small all = small
near_above p n low (t ∷ ts) small all = go (near_above p n low ts small (All-tail (λ t. low < distance_to p t.0) t ts all)) (All-head (λ t. low < distance_to p t.0) t ts all) (t.1 == n) refl
  where
    go : low < nearest p n ts → low < distance_to p t.0 → (c : Bool) → (t.1 == n) ≡ c → low < nearest p n (t ∷ ts)
    go later first true is = rw is (omega arith)
    go later first false is = rw is later

-- in rising order the first token of a node is its nearest
near_first : (p : ℕ) (t : ℕ × ℕ) (ts : List (ℕ × ℕ)) → Rises (λ u. distance_to p u.0) (t ∷ ts) → nearest p t.1 (t ∷ ts) ≡ distance_to p t.0
near_first p t ts rise =
    let same : (t.1 == t.1) ≡ true = eq-eqb t.1 t.1 refl in
    let above = near_above p t.1 (distance_to p t.0) ts (distance_small p t.0) rise.0 in
    rw same (omega arith)

near_other : (p n : ℕ) (t : ℕ × ℕ) (ts : List (ℕ × ℕ)) → (t.1 == n) ≡ false → nearest p n (t ∷ ts) ≡ nearest p n ts
near_other p n t ts is = rw is refl

has_push : (nodes : List ℕ) (x m : ℕ) → has (nodes ++ x ∷ []) m ≡ (has nodes m || (x == m))
has_push nodes x m = list_any-append (λ n. n == m) nodes (x ∷ []) ∙ ap (λ b. has nodes m || b) (or_false (x == m))
  where
    or_false : (a : Bool) → (a || false) ≡ a
    or_false true = refl
    or_false false = refl

-- the walk over tokens that rise by distance meets the nodes by rising distance
pub met_rises : (p : ℕ) (f : ℕ → ℕ) (nodes : List ℕ) (ts : List (ℕ × ℕ)) → Rises f nodes → Rises (λ t. distance_to p t.0) ts → All (λ n. All (λ t. f n < distance_to p t.0) ts) nodes → ((n : ℕ) → has nodes n ≡ false → nearest p n ts ≡ f n) → Rises f (met nodes ts)
met_rises p f nodes [] up rise before near = up
met_rises p f nodes (t ∷ ts) up rise before near = go (met_rises p f nodes ts up rise.1 tails) (met_rises p f (nodes ++ t.1 ∷ []) ts) (has nodes t.1) refl
  where
    tails : All (λ n. All (λ u. f n < distance_to p u.0) ts) nodes
    tails = All-weaker (λ n. All (λ u. f n < distance_to p u.0) (t ∷ ts)) (λ n. All (λ u. f n < distance_to p u.0) ts) (λ n h. All-tail (λ u. f n < distance_to p u.0) t ts h) nodes before

    known : has nodes t.1 ≡ true → (n : ℕ) → has nodes n ≡ false → nearest p n ts ≡ f n
    known is n new = sym (near_other p n t ts (ne_eqb t.1 n (λ e. both_ways (has nodes n) new (subst (λ v. has nodes v ≡ true) e is)))) ∙ near n new

    go : (((n : ℕ) → has nodes n ≡ false → nearest p n ts ≡ f n) → Rises f (met nodes ts)) → (Rises f (nodes ++ t.1 ∷ []) → Rises (λ u. distance_to p u.0) ts → All (λ n. All (λ u. f n < distance_to p u.0) ts) (nodes ++ t.1 ∷ []) → ((n : ℕ) → has (nodes ++ t.1 ∷ []) n ≡ false → nearest p n ts ≡ f n) → Rises f (met (nodes ++ t.1 ∷ []) ts)) → (c : Bool) → has nodes t.1 ≡ c → Rises f (met nodes (t ∷ ts))
    go old new true is = rw is (old (known is))
    go old new false is =
        let here : f t.1 ≡ distance_to p t.0 = sym (near t.1 is) ∙ near_first p t ts rise in
        let heads : All (λ n. f n < f t.1) nodes = All-weaker (λ n. All (λ u. f n < distance_to p u.0) (t ∷ ts)) (λ n. f n < f t.1) (λ n h. let k = All-head (λ u. f n < distance_to p u.0) t ts h in omega arith) nodes before in
        let longer : Rises f (nodes ++ t.1 ∷ []) =
        rises_append f nodes (t.1 ∷ []) up (All-nil (λ y. f t.1 < f y), tt)
        (All-weaker (λ n. f n < f t.1) (λ n. All (λ m. f n < f m) (t.1 ∷ [])) (λ n h. All-cons (λ m. f n < f m) t.1 [] h (All-nil (λ m. f n < f m))) nodes heads) in
        let after : All (λ u. f t.1 < distance_to p u.0) ts = subst (λ v. All (λ u. v < distance_to p u.0) ts) (sym here) rise.0 in
        let all : All (λ n. All (λ u. f n < distance_to p u.0) ts) (nodes ++ t.1 ∷ []) =
        All-append (λ n. All (λ u. f n < distance_to p u.0) ts) nodes (t.1 ∷ []) tails
        (All-cons (λ n. All (λ u. f n < distance_to p u.0) ts) t.1 [] after (All-nil (λ n. All (λ u. f n < distance_to p u.0) ts))) in
        rw is (new longer rise.1 all (λ n none. let parts = or_parts (has nodes n) (t.1 == n) (sym (has_push nodes t.1 n) ∙ none) in sym (near_other p n t ts parts.1) ∙ near n parts.0))

-- it meets the nodes that the tokens have
met_has : (m : ℕ) (nodes : List ℕ) (ts : List (ℕ × ℕ)) → has (met nodes ts) m ≡ (has nodes m || has_token ts m)
met_has m nodes [] = sym (or_false (has nodes m))
  where
    or_false : (a : Bool) → (a || false) ≡ a
    or_false true = refl
    or_false false = refl
met_has m nodes (t ∷ ts) = go (met_has m nodes ts) (met_has m (nodes ++ t.1 ∷ []) ts) (has nodes t.1) refl
  where
    old : (a b c : Bool) → (b ≡ true → a ≡ true) → (a || c) ≡ (a || (b || c))
    old true b c h = refl
    old false true c h = absurd (both_ways false refl (h refl))
    old false false c h = refl

    regroup : (a b c : Bool) → ((a || b) || c) ≡ (a || (b || c))
    regroup true b c = refl
    regroup false b c = refl

    go : has (met nodes ts) m ≡ (has nodes m || has_token ts m) → has (met (nodes ++ t.1 ∷ []) ts) m ≡ (has (nodes ++ t.1 ∷ []) m || has_token ts m) → (c : Bool) → has nodes t.1 ≡ c → has (met nodes (t ∷ ts)) m ≡ (has nodes m || has_token (t ∷ ts) m)
    go kept grown true is = rw is (kept ∙ old (has nodes m) (t.1 == m) (has_token ts m) (λ e. subst (λ v. has nodes v ≡ true) (eqb-true t.1 m e) is))
    go kept grown false is = rw is (grown ∙ ap (λ b. b || has_token ts m) (has_push nodes t.1 m) ∙ regroup (has nodes m) (t.1 == m) (has_token ts m))

pub met_append : (nodes : List ℕ) (xs ys : List (ℕ × ℕ)) → met (met nodes xs) ys ≡ met nodes (xs ++ ys)
met_append nodes [] ys = refl
met_append nodes (t ∷ xs) ys = go (met_append nodes xs ys) (met_append (nodes ++ t.1 ∷ []) xs ys) (has nodes t.1) refl
  where
    go : met (met nodes xs) ys ≡ met nodes (xs ++ ys) → met (met (nodes ++ t.1 ∷ []) xs) ys ≡ met (nodes ++ t.1 ∷ []) (xs ++ ys) → (c : Bool) → has nodes t.1 ≡ c → met (met nodes (t ∷ xs)) ys ≡ met nodes (t ∷ xs ++ ys)
    go kept grown true is = rw is kept
    go kept grown false is = rw is grown

-- a ring's tokens are of its nodes
ring_has : (ring : Tokens) (m : ℕ) → IsRing ring → has_token ring.tokens m ≡ nat_lt m ring.nodes
ring_has ring m valid = go (cases_lt m ring.nodes)
  where
    go : (m < ring.nodes) ⊎ (ring.nodes ≤ m) → has_token ring.tokens m ≡ nat_lt m ring.nodes
    go (inl lt) = valid.each_has m lt ∙ sym (lt-ltb m ring.nodes lt)
    go (inr le) =
        list_any_none (λ (t : ℕ × ℕ). t.1 == m) ring.tokens (All-weaker (λ (t : ℕ × ℕ). t.1 < ring.nodes) (λ t. (t.1 == m) ≡ false) (λ t h. ne_eqb t.1 m (λ e. omega arith)) ring.tokens valid.of_nodes)
        ∙ sym (le-ltb m ring.nodes le)

-- where a position parts rising tokens
record IsPart (p : ℕ) (ts : List (ℕ × ℕ)) (i : ℕ) : Type 0 where
  passed : All (λ t. t.0 ≤ p) (take i ts)
  ahead : All (λ t. p < t.0) (drop i ts)

part_of : (p : ℕ) (ts : List (ℕ × ℕ)) → Rises (λ t. t.0) ts → (i : ℕ) × IsPart p ts i
part_of p [] rise = (0, record { passed = All-nil (λ t. t.0 ≤ p); ahead = All-nil (λ t. p < t.0) })
part_of p (t ∷ ts) rise = go (part_of p ts rise.1) (cases_lt p t.0)
  where
    go : (i : ℕ) × IsPart p ts i → (p < t.0) ⊎ (t.0 ≤ p) → (i : ℕ) × IsPart p (t ∷ ts) i
    go later (inl lt) = (0, record { passed = All-nil (λ t. t.0 ≤ p); ahead = All-cons (λ t. p < t.0) t ts lt (All-weaker (λ u. t.0 < u.0) (λ u. p < u.0) (λ u h. omega arith) ts rise.0) })
    go later (inr le) = (suc later.0, record { passed = All-cons (λ t. t.0 ≤ p) t (take later.0 ts) le later.1.passed; ahead = later.1.ahead })

-- the walk from there
pub walk_rises : (ring : Tokens) (p i : ℕ) → IsRing ring → p < 2 ^ 128 → All (λ t. t.0 ≤ p) (take i ring.tokens) → All (λ t. p < t.0) (drop i ring.tokens) → Rises (node_distance ring p) (met [] (drop i ring.tokens ++ take i ring.tokens))
walk_rises ring p i valid small passed ahead =
    met_rises p (node_distance ring p) [] (drop i ring.tokens ++ take i ring.tokens) tt
    (turned_rises p i ring.tokens small valid.rising valid.positions passed ahead)
    (All-nil (λ n. All (λ t. node_distance ring p n < distance_to p t.0) (drop i ring.tokens ++ take i ring.tokens)))
    (λ n none. near_turned p n i ring.tokens ∙ sym (distance_is ring p n))

pub walk_has : (ring : Tokens) (i m : ℕ) → IsRing ring → has (met [] (drop i ring.tokens ++ take i ring.tokens)) m ≡ nat_lt m ring.nodes
walk_has ring i m valid = met_has m [] (drop i ring.tokens ++ take i ring.tokens) ∙ token_turned m i ring.tokens ∙ ring_has ring m valid

-- no two nodes are equally far
apart : (ring : Tokens) (p : ℕ) → IsRing ring → p < 2 ^ 128 → (a b : ℕ) → a < ring.nodes → b < ring.nodes → node_distance ring p a ≡ node_distance ring p b → a ≡ b
apart ring p valid small a b la lb e =
    let part = part_of p ring.tokens valid.rising in
    same_by (node_distance ring p) (met [] (drop part.0 ring.tokens ++ take part.0 ring.tokens)) a b
    (walk_rises ring p part.0 valid small part.1.passed part.1.ahead)
    (walk_has ring part.0 a valid ∙ lt-ltb a ring.nodes la)
    (walk_has ring part.0 b valid ∙ lt-ltb b ring.nodes lb)
    e

pub by_distance : (ring : Tokens) (p : ℕ) → IsRing ring → p < 2 ^ 128 → IsByDistance ring p (nodes_by (node_distance ring p) ring.nodes)
by_distance ring p valid small =
    let rise : Rises (node_distance ring p) (nodes_by (node_distance ring p) ring.nodes) = rises_nodes (node_distance ring p) ring.nodes (apart ring p valid small) in
    record {
      each_node = λ m. has_nodes (node_distance ring p) ring.nodes m;
      once = distinct_rising (node_distance ring p) (nodes_by (node_distance ring p) ring.nodes) rise;
      count = length_nodes (node_distance ring p) ring.nodes;
      rising = rise;
    }

pub unique : (ring : Tokens) (p : ℕ) (nodes : List ℕ) → IsRing ring → p < 2 ^ 128 → Rises (node_distance ring p) nodes → ((m : ℕ) → has nodes m ≡ nat_lt m ring.nodes) → nodes ≡ nodes_by (node_distance ring p) ring.nodes
unique ring p nodes valid small rise each =
    same_rising (node_distance ring p) nodes (nodes_by (node_distance ring p) ring.nodes) rise
    (rises_nodes (node_distance ring p) ring.nodes (apart ring p valid small))
    (λ m. each m ∙ sym (has_nodes (node_distance ring p) ring.nodes m))

pub walk_is : (ring : Tokens) (p i : ℕ) → IsRing ring → p < 2 ^ 128 → All (λ t. t.0 ≤ p) (take i ring.tokens) → All (λ t. p < t.0) (drop i ring.tokens) → met (met [] (drop i ring.tokens)) (take i ring.tokens) ≡ nodes_by (node_distance ring p) ring.nodes
walk_is ring p i valid small passed ahead =
    met_append [] (drop i ring.tokens) (take i ring.tokens)
    ∙ unique ring p (met [] (drop i ring.tokens ++ take i ring.tokens)) valid small (walk_rises ring p i valid small passed ahead) (λ m. walk_has ring i m valid)

-- one token of a walk more
pub met_kept : (nodes : List ℕ) (ts : List (ℕ × ℕ)) (i : ℕ) (t : ℕ × ℕ) (all : List ℕ) → i < length ts → t ≡ get_or ts i t → has nodes t.1 ≡ true → met nodes (drop i ts) ≡ all → met nodes (drop (i + 1) ts) ≡ all
met_kept nodes ts i t all lt read is so_far =
    sym (at_drop_more (met nodes) ts i t lt ∙ ap (λ u. met nodes (u ∷ drop (i + 1) ts)) (sym read) ∙ rw is refl) ∙ so_far

pub met_grown : (nodes : List ℕ) (ts : List (ℕ × ℕ)) (i : ℕ) (t : ℕ × ℕ) (all : List ℕ) → i < length ts → t ≡ get_or ts i t → has nodes t.1 ≡ false → met nodes (drop i ts) ≡ all → met (nodes ++ t.1 ∷ []) (drop (i + 1) ts) ≡ all
met_grown nodes ts i t all lt read is so_far =
    sym (at_drop_more (met nodes) ts i t lt ∙ ap (λ u. met nodes (u ∷ drop (i + 1) ts)) (sym read) ∙ rw is refl) ∙ so_far
