-- Lists along which a function rises.
use Rattle.std.proofs.Common.{◌≡◌, ℕ, zero, suc, ◌+◌, ◌<◌, ◌==◌, nat_eq, nat_lt, nat_le, Bool, true, false, ◌||◌, List, [], ◌∷◌, ◌++◌, length, take, drop, refl, sym, ap, ◌∙◌, subst, ⊎_elim, ◌⊎◌, inl, inr, arith}
use Rattle.std.specs.List.{All, list_any, IsDistinct}
use Rattle.std.proofs.lemmas.Bool.{eqb-true, eq-eqb, ne_eqb, leb-true, leb-false, both_ways, or_cases, or_left}
use Rattle.std.proofs.lemmas.Bool.Decides.{nat_tests}
use Rattle.std.proofs.lemmas.List.Elements.{All-nil, All-cons, All-head, All-tail, All-append, All-weaker, All-take, recursion_from_All}
use Rattle.std.proofs.lemmas.Map.Keys.{IsDistinct-cons}
use Rattle.dy_ring.specs.Rings.{Rises}
use Rattle.dy_preference.specs.Preferences.{put_by, nodes_by}

-- whether the list has the node
abbrev pub has : List ℕ → ℕ → Bool
has xs m = list_any (λ x. x == m) xs

pub rises_append : {X : Type 0} (f : X → ℕ) (xs ys : List X) → Rises f xs → Rises f ys → All (λ x. All (λ y. f x < f y) ys) xs → Rises f (xs ++ ys)
rises_append f [] ys a b below = b
rises_append f (x ∷ xs) ys a b below = (
  All-append (λ y. f x < f y) xs ys a.0 (All-head (λ x. All (λ y. f x < f y) ys) x xs below),
  rises_append f xs ys a.1 b (All-tail (λ x. All (λ y. f x < f y) ys) x xs below),
)

pub rises_take : {X : Type 0} (f : X → ℕ) (i : ℕ) (xs : List X) → Rises f xs → Rises f (take i xs)
rises_take f zero xs rise = tt
rises_take f (suc i) [] rise = tt
rises_take f (suc i) (x ∷ xs) rise = (All-take (λ y. f x < f y) i xs rise.0, rises_take f i xs rise.1)

pub rises_drop : {X : Type 0} (f : X → ℕ) (i : ℕ) (xs : List X) → Rises f xs → Rises f (drop i xs)
rises_drop f zero xs rise = rise
rises_drop f (suc i) [] rise = tt
rises_drop f (suc i) (x ∷ xs) rise = rises_drop f i xs rise.1

-- what rises by f rises by g, where g rises with f on elements of this kind
pub rises_by : {X : Type 0} (f g : X → ℕ) (P : X → Type 0) → ((x y : X) → P x → P y → f x < f y → g x < g y) → (xs : List X) → All P xs → Rises f xs → Rises g xs
rises_by f g P keeps [] all rise = tt
rises_by f g P keeps (x ∷ xs) all rise = (
  λ k d lt. keeps x _ (All-head P x xs all) (All-tail P x xs all k d lt) (rise.0 k d lt),
  rises_by f g P keeps xs (All-tail P x xs all) rise.1,
)

-- what a list has, meets what is true of each
pub at_member : (P : ℕ → Type 0) (xs : List ℕ) (m : ℕ) → All P xs → has xs m ≡ true → P m
at_member P [] m all is = absurd (both_ways false refl is)
at_member P (x ∷ xs) m all is = ⊎_elim (λ e. subst P (eqb-true x m e) (All-head P x xs all)) (λ h. at_member P xs m (All-tail P x xs all) h) (or_cases (x == m) (has xs m) is)

-- two elements with one number are one
pub same_by : (f : ℕ → ℕ) (xs : List ℕ) (a b : ℕ) → Rises f xs → has xs a ≡ true → has xs b ≡ true → f a ≡ f b → a ≡ b
same_by f [] a b rise ha hb e = absurd (both_ways false refl ha)
same_by f (x ∷ xs) a b rise ha hb e = go (same_by f xs a b rise.1) (or_cases (x == a) (has xs a) ha) (or_cases (x == b) (has xs b) hb)
  where
    above : (m : ℕ) → has xs m ≡ true → f x < f m
    above m h = at_member (λ y. f x < f y) xs m rise.0 h

    go : (has xs a ≡ true → has xs b ≡ true → f a ≡ f b → a ≡ b) → ((x == a) ≡ true) ⊎ (has xs a ≡ true) → ((x == b) ≡ true) ⊎ (has xs b ≡ true) → a ≡ b
    go later (inl p) (inl q) = sym (eqb-true x a p) ∙ eqb-true x b q
    go later (inl p) (inr q) = let h : f x < f b = above b q in let s : f x ≡ f a = ap f (eqb-true x a p) in absurd (omega arith)
    go later (inr p) (inl q) = let h : f x < f a = above a p in let s : f x ≡ f b = ap f (eqb-true x b q) in absurd (omega arith)
    go later (inr p) (inr q) = later p q e

-- no element comes twice
pub distinct_rising : (f : ℕ → ℕ) (xs : List ℕ) → Rises f xs → IsDistinct nat_eq xs
unfolding IsDistinct
distinct_rising f [] rise = tt
distinct_rising f (x ∷ xs) rise =
    IsDistinct-cons nat_eq x xs
    (recursion_from_All (λ y. nat_eq x y ≡ false) xs (λ k d lt. ne_eqb x _ (λ e. let h = rise.0 k d lt in let s = ap f e in absurd (omega arith))))
    (distinct_rising f xs rise.1)

-- two rising lists with the same elements are one
pub same_rising : (f : ℕ → ℕ) (xs ys : List ℕ) → Rises f xs → Rises f ys → ((m : ℕ) → has xs m ≡ has ys m) → xs ≡ ys
same_rising f [] [] a b same = refl
same_rising f [] (y ∷ ys) a b same = absurd (both_ways false refl (same y ∙ or_left (y == y) (has ys y) (eq-eqb y y refl)))
same_rising f (x ∷ xs) [] a b same = absurd (both_ways false refl (sym (same x) ∙ or_left (x == x) (has xs x) (eq-eqb x x refl)))
same_rising f (x ∷ xs) (y ∷ ys) a b same = joined (first (in_ys) (in_xs)) (same_rising f xs ys a.1 b.1)
  where
    in_ys : ((y == x) ≡ true) ⊎ (has ys x ≡ true)
    in_ys = or_cases (y == x) (has ys x) (sym (same x) ∙ or_left (x == x) (has xs x) (eq-eqb x x refl))

    in_xs : ((x == y) ≡ true) ⊎ (has xs y ≡ true)
    in_xs = or_cases (x == y) (has xs y) (same y ∙ or_left (y == y) (has ys y) (eq-eqb y y refl))

    first : ((y == x) ≡ true) ⊎ (has ys x ≡ true) → ((x == y) ≡ true) ⊎ (has xs y ≡ true) → x ≡ y
    first (inl p) q = sym (eqb-true y x p)
    first (inr p) (inl q) = eqb-true x y q
    first (inr p) (inr q) =
        let h : f y < f x = at_member (λ z. f y < f z) ys x b.0 p in
        let k : f x < f y = at_member (λ z. f x < f z) xs y a.0 q in
        absurd (omega arith)

    rest : x ≡ y → (m : ℕ) → (c : Bool) → (x == m) ≡ c → has xs m ≡ has ys m
    rest e m true is =
        let xm : x ≡ m = eqb-true x m is in
        let none : (zs : List ℕ) → All (λ z. f m < f z) zs → has zs m ≡ false = λ zs all. not_there zs m all in
        none xs (subst (λ v. All (λ z. f v < f z) xs) xm a.0) ∙ sym (none ys (subst (λ v. All (λ z. f v < f z) ys) (sym e ∙ xm) b.0))
      where
        not_there : (zs : List ℕ) (m : ℕ) → All (λ z. f m < f z) zs → has zs m ≡ false
        not_there zs m all = go (has zs m) refl
          where
            go : (c : Bool) → has zs m ≡ c → has zs m ≡ false
            go true is = let h : f m < f m = at_member (λ z. f m < f z) zs m all is in absurd (omega arith)
            go false is = is
    rest e m false is =
        let h : ((x == m) || has xs m) ≡ ((y == m) || has ys m) = same m in
        let k : (y == m) ≡ false = subst (λ v. (v == m) ≡ false) e is in
        rw (is, k) at h

    joined : x ≡ y → (((m : ℕ) → has xs m ≡ has ys m) → xs ≡ ys) → x ∷ xs ≡ y ∷ ys
    joined e later = let t : xs ≡ ys = later (λ m. rest e m (x == m) refl) in cc

-- the insertion sort: members, length, order
has_put : (f : ℕ → ℕ) (x m : ℕ) (ys : List ℕ) → has (put_by f x ys) m ≡ ((x == m) || has ys m)
has_put f x m [] = refl
has_put f x m (y ∷ ys) = go (has_put f x m ys) (nat_le (f x) (f y)) refl
  where
    swap : (a b c : Bool) → (b || (a || c)) ≡ (a || (b || c))
    swap true true c = refl
    swap true false c = refl
    swap false b c = refl

    go : has (put_by f x ys) m ≡ ((x == m) || has ys m) → (c : Bool) → nat_le (f x) (f y) ≡ c → has (put_by f x (y ∷ ys)) m ≡ ((x == m) || has (y ∷ ys) m)
    go later true is = rw is refl
    go later false is = rw (is, later) (swap (x == m) (y == m) (has ys m))

length_put : (f : ℕ → ℕ) (x : ℕ) (ys : List ℕ) → length (put_by f x ys) ≡ length ys + 1
length_put f x [] = refl
length_put f x (y ∷ ys) = go (length_put f x ys) (nat_le (f x) (f y)) refl
  where
    go : length (put_by f x ys) ≡ length ys + 1 → (c : Bool) → nat_le (f x) (f y) ≡ c → length (put_by f x (y ∷ ys)) ≡ length (y ∷ ys) + 1
    go later true is = rw is (omega arith)
    go later false is = rw is (omega arith)

all_put : (P : ℕ → Type 0) (f : ℕ → ℕ) (x : ℕ) (ys : List ℕ) → P x → All P ys → All P (put_by f x ys)
all_put P f x [] px all = All-cons P x [] px all
all_put P f x (y ∷ ys) px all = go (all_put P f x ys px (All-tail P y ys all)) (nat_le (f x) (f y)) refl
  where
    go : All P (put_by f x ys) → (c : Bool) → nat_le (f x) (f y) ≡ c → All P (put_by f x (y ∷ ys))
    go later true is = rw is (All-cons P x (y ∷ ys) px all)
    go later false is = rw is (All-cons P y (put_by f x ys) (All-head P y ys all) later)

rises_put : (f : ℕ → ℕ) (x : ℕ) (ys : List ℕ) → Rises f ys → All (λ y. f y ≡ f x → ⊥) ys → Rises f (put_by f x ys)
rises_put f x [] rise other = (All-nil (λ y. f x < f y), tt)
rises_put f x (y ∷ ys) rise other = go (rises_put f x ys rise.1 (All-tail (λ y. f y ≡ f x → ⊥) y ys other)) (nat_le (f x) (f y)) refl
  where
    go : Rises f (put_by f x ys) → (c : Bool) → nat_le (f x) (f y) ≡ c → Rises f (put_by f x (y ∷ ys))
    go later true is =
        let le = leb-true (f x) (f y) is in
        let ne = All-head (λ y. f y ≡ f x → ⊥) y ys other in
        let lt : f x < f y = omega (arith, ne) in
        rw is (All-cons (λ z. f x < f z) y ys lt (All-weaker (λ z. f y < f z) (λ z. f x < f z) (λ z h. omega arith) ys rise.0), rise)
    go later false is =
        let lt = leb-false (f x) (f y) is in
        rw is (all_put (λ z. f y < f z) f x ys lt rise.0, later)

pub has_nodes : (f : ℕ → ℕ) (n m : ℕ) → has (nodes_by f n) m ≡ nat_lt m n
has_nodes f zero m = grind (arith, nat_tests)
has_nodes f (suc n) m = let h = has_nodes f n m in has_put f n m (nodes_by f n) ∙ rw h (below n m)
  where
    below : (n m : ℕ) → ((n == m) || nat_lt m n) ≡ nat_lt m (suc n)
    below n m = grind (arith, nat_tests)

pub length_nodes : (f : ℕ → ℕ) (n : ℕ) → length (nodes_by f n) ≡ n
length_nodes f zero = refl
length_nodes f (suc n) = let h = length_nodes f n in length_put f n (nodes_by f n) ∙ omega arith

all_below : (f : ℕ → ℕ) (n : ℕ) → All (λ m. m < n) (nodes_by f n)
all_below f zero = All-nil (λ m. m < 0)
all_below f (suc n) = all_put (λ m. m < suc n) f n (nodes_by f n) (omega arith) (All-weaker (λ m. m < n) (λ m. m < suc n) (λ m h. omega arith) (nodes_by f n) (all_below f n))

-- where no two nodes have one number, the nodes rise
pub rises_nodes : (f : ℕ → ℕ) (n : ℕ) → ((a b : ℕ) → a < n → b < n → f a ≡ f b → a ≡ b) → Rises f (nodes_by f n)
rises_nodes f zero one = tt
rises_nodes f (suc n) one =
    rises_put f n (nodes_by f n) (rises_nodes f n (λ a b la lb e. one a b (omega arith) (omega arith) e))
    (All-weaker (λ m. m < n) (λ m. f m ≡ f n → ⊥) (λ m lt e. let s = one m n (omega arith) (omega arith) e in omega arith) (nodes_by f n) (all_below f n))
