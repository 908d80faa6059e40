-- Whom a coordinator asks: each node once, and few of them. The asks to homes leave out the home
-- that it holds for, those who stand in are past the homes, and neither are the coordinator.
use Rattle.std.proofs.Common.{not, ◌==◌, ◌≡◌, ◌++◌, ◌∷◌, [], ◌<◌, ◌≤◌, ◌+◌, List, ℕ, Bool, true}
use Rattle.std.proofs.Common.{false, zero, suc, Some, length, map, filter, drop, get_or, nat_eq}
use Rattle.std.proofs.Common.{refl, sym, ◌∙◌, ap, subst, arith, inl, inr, ◌⊎◌, IsTrue, ◌||◌}
use Rattle.std.proofs.lemmas.Bool.{cases_Bool, cases_eq, eqb-true, eqb-false, eq-eqb, ne_eqb}
use Rattle.std.proofs.lemmas.Bool.{not-true, and_parts, or_cases, true≢false}
use Rattle.std.proofs.lemmas.Bool.Decides.{Decides-eqb}
use Rattle.std.proofs.lemmas.List.{append-nil, length-map, take-append-drop, length-take-le}
use Rattle.std.proofs.lemmas.List.{length-drop}
use Rattle.std.proofs.lemmas.List.Elements.{All-append, All-cons, All-head, All-tail, All-filter}
use Rattle.std.proofs.lemmas.List.Elements.{All-weaker, All-map, filter_passes, Contains-get_or}
use Rattle.std.proofs.lemmas.List.Elements.{Contains-append_left, Contains-append_right}
use Rattle.std.proofs.lemmas.List.Elements.{Contains-append_cases}
use Rattle.std.proofs.lemmas.List.Kept.{AllPairs-cons, AllPairs-filter}
use Rattle.std.proofs.lemmas.Map.Made.{AllPairs-from_IsDistinct, IsDistinct-from_AllPairs}
use Rattle.std.specs.List.{All, AllPairs, Contains, IsDistinct, slice_get}
use Rattle.dy_siblings.proofs.Members.{any_gives, any_from, filter_in, in_cases, not_in_nil}
use Rattle.dy_preference.specs.Preferences.{Preferred, IsPreferred, home_for, is_home, may_hold}
use Rattle.dy_preference.specs.Preferences.{stand_ins_of}
use Rattle.dy_transport.specs.declared.asked.Asked.{Asked}
use Rattle.dy_transport.specs.declared.asked.What.{What}
use Rattle.dy_transport.specs.Told.{Told, AllAnswered}
use Rattle.dy_reads.specs.Lists.{homes_in, asked_homes}
use Rattle.dy_reads.specs.Rules.{ask_of, nodes_asked, home_asks, HasRead, AllUsed}
use Rattle.dy_reads.proofs.Readings.{none_left}

abbrev other_than : ℕ → ℕ → Bool
other_than c = λ x. not (x == c)

-- all are different
abbrev pub Apart : List ℕ → Type 0
Apart nodes = AllPairs (λ x y. x ≡ y → ⊥) nodes

is_other : (x c : ℕ) → (x ≡ c → ⊥) → other_than c x ≡ true
is_other x c other = rw (ne_eqb x c other) refl

filter_le : (p : ℕ → Bool) (xs : List ℕ) → length (filter p xs) ≤ length xs
filter_le p [] = omega arith
filter_le p (x ∷ xs) = let h : length (filter p xs) ≤ length xs = filter_le p xs in
    elim (cases_Bool (p x)) [ inl t ↦ rw t (omega arith) | inr f ↦ rw f (omega arith) ]

filter_less : (p : ℕ → Bool) (xs : List ℕ) (x : ℕ) → Contains xs x → p x ≡ false →
    length (filter p xs) < length xs
filter_less p [] x c fails = absurd (not_in_nil x c)
filter_less p (y ∷ xs) x c fails = elim (in_cases y x xs c) [
  | inl same ↦ (let h : length (filter p xs) ≤ length xs = filter_le p xs in
      let here : p y ≡ false = ap p (sym same) ∙ fails in rw here (omega arith))
  | inr later ↦ (let h : length (filter p xs) < length xs = filter_less p xs x later fails in
      elim (cases_Bool (p y)) [ inl t ↦ rw t (omega arith) | inr f ↦ rw f (omega arith) ])
]

all_filters : (P : ℕ → Type 0) (p q : ℕ → Bool) (xs ys : List ℕ) → All P (xs ++ ys) →
    All P (filter p xs ++ filter q ys)
all_filters P p q [] ys a = All-filter q P ys a
all_filters P p q (x ∷ xs) ys a = let rest : All P (filter p xs ++ filter q ys) = all_filters P p q
    xs ys (All-tail P x (xs ++ ys) a) in
    elim (cases_Bool (p x)) [
      | inl t ↦ rw t (All-cons P x (filter p xs ++ filter q ys) (All-head P x
          (xs ++ ys) a) rest)
      | inr f ↦ rw f rest
    ]

apart_head : (x : ℕ) (xs : List ℕ) → Apart (x ∷ xs) → All (λ y. x ≡ y → ⊥) xs
apart_head x xs h k d lt = h 0 (suc k) d (omega arith) (omega arith)

apart_tail : (x : ℕ) (xs : List ℕ) → Apart (x ∷ xs) → Apart xs
apart_tail x xs h i j d lt m = h (suc i) (suc j) d (omega arith) (omega arith)

apart_filters : (p q : ℕ → Bool) (xs ys : List ℕ) → Apart (xs ++ ys) → Apart (filter p xs ++ filter
    q ys)
apart_filters p q [] ys h = AllPairs-filter (λ x y. x ≡ y → ⊥) q ys h
apart_filters p q (x ∷ xs) ys h =
    let rest : Apart (filter p xs ++ filter q ys) = apart_filters p q xs ys (apart_tail x (xs ++ ys)
    h) in
    elim (cases_Bool (p x)) [
      | inl t ↦ rw t (AllPairs-cons (λ y z. y ≡ z → ⊥) x (filter p xs ++ filter q ys)
          (all_filters (λ y. x ≡ y → ⊥) p q xs ys (apart_head x (xs ++ ys) h)) rest)
      | inr f ↦ rw f rest
    ]

all_other : (c : ℕ) (xs : List ℕ) → All (λ y. c ≡ y → ⊥) (filter (other_than c) xs)
all_other c xs = All-weaker (λ y. other_than c y ≡ true) (λ y. c ≡ y → ⊥) (λ y e same. eqb-false y c
    (not-true (y == c) e) (sym same)) (filter (other_than c) xs) (filter_passes (other_than c) xs)

none_is : (c : ℕ) (xs : List ℕ) → is_home xs c ≡ false → All (λ y. c ≡ y → ⊥) xs
none_is c xs e k d lt same = true≢false
    (sym (any_from (λ h. h == c) xs (get_or xs k d) (Contains-get_or xs k d lt)
    (eq-eqb (get_or xs k d) c (sym same))) ∙ e)

some_is : (c : ℕ) (xs : List ℕ) → is_home xs c ≡ true → Contains xs c
some_is c xs e = let found = any_gives (λ h. h == c) xs e in
    let P : ℕ → Type 0 = λ x. Contains xs x in subst P (eqb-true found.item c found.passes)
    found.in_list

nodes_asked_are : (what : What) (hs : List ℕ) → nodes_asked (map (λ h. ask_of what h h 0) hs) ≡ hs
nodes_asked_are what [] = refl
nodes_asked_are what (h ∷ hs) = ap (λ xs. h ∷ xs) (nodes_asked_are what hs)

pub all_home_whats : (what : What) (held : ℕ) (homes : List ℕ) → All (λ a. a.what ≡ what)
    (home_asks what held homes)
all_home_whats what held homes = All-map (λ a. a.what ≡ what) (λ h. ask_of what h h 0)
    (asked_homes held homes) (λ k d lt. refl)

asked_at : (what : What) (hs : List ℕ) (home : ℕ) → Contains hs home → (k : ℕ) × (a : Asked)
    × (slice_get (map (λ h. ask_of what h h 0) hs) k ≡ Some a) × (a.home ≡ home)
asked_at what [] home c = absurd (let l = c.1 in omega arith)
asked_at what (h ∷ hs) home (zero, l, e) = (zero, ask_of what h h 0, refl, e)
asked_at what (h ∷ hs) home (suc k, l, e) =
    let r : (j : ℕ) × (a : Asked) × (slice_get (map (λ x. ask_of what x x 0) hs) j ≡ Some a)
    × (a.home ≡ home) = asked_at what hs home (k, omega arith, e) in
    (suc r.0, r.1, r.2, r.3)

count_homes : (list : Preferred) → IsPreferred list → length (homes_in list) ≡ list.n
count_homes list p = length-take-le list.n list.nodes p.enough

home_first : (xs : List ℕ) (c : ℕ) → 1 ≤ length xs → Contains xs (get_or xs 0 c)
home_first xs c some = Contains-get_or xs 0 c (omega arith)

pub held_is_home : (list : Preferred) (c : ℕ) → IsPreferred list → Contains (homes_in list)
    (home_for (homes_in list) c)
held_is_home list c p = elim (cases_Bool (is_home (homes_in list) c)) [
  | inl t ↦ rw t (some_is c (homes_in list) t)
  | inr f ↦ rw f (home_first (homes_in list) c (let n = count_homes list p in let s = p.some in
      omega arith))
]

-- a coordinator asks all nodes but one at most
pub few_asked : (list : Preferred) (what : What) (c : ℕ) → IsPreferred list
    → length (home_asks what (home_for (homes_in list) c) (homes_in list)) + length (stand_ins_of
    list.nodes list.n c) < length list.nodes
few_asked list what c p =
    let held : ℕ = home_for (homes_in list) c in
    let less : length (asked_homes held (homes_in list)) < length (homes_in list) =
    filter_less (other_than held) (homes_in list) held (held_is_home list c p)
    (rw (eq-eqb held held refl) refl) in
    let le : length (stand_ins_of list.nodes list.n c) ≤ length (drop list.n list.nodes) = filter_le
    (other_than c) (drop list.n list.nodes) in
    let enough = p.enough in
    omega (
      arith,
      count_homes list p,
      length-drop list.n list.nodes,
      length-map (asked_homes held
          (homes_in list)) (λ h. ask_of what h h 0),
    )

apart_nodes : (list : Preferred) → IsPreferred list → Apart (homes_in list ++ drop list.n
    list.nodes)
apart_nodes list p = let P : List ℕ → Type 0 = λ xs. Apart xs in subst P
    (sym (take-append-drop list.n list.nodes)) (AllPairs-from_IsDistinct Decides-eqb list.nodes
    p.distinct)

apart_rest : (list : Preferred) (c : ℕ) → IsPreferred list → Apart (c ∷ asked_homes
    (home_for (homes_in list) c) (homes_in list) ++ stand_ins_of list.nodes list.n c)
apart_rest list c p =
    let homes : List ℕ = homes_in list in
    let others : List ℕ = drop list.n list.nodes in
    let held : ℕ = home_for homes c in
    let P : ℕ → Type 0 = λ y. c ≡ y → ⊥ in
    let past : All P (filter (other_than c) others) = all_other c others in
    let front : All P (asked_homes held homes) = (elim (cases_Bool (is_home homes c)) [
      | inl t ↦ rw t (all_other c homes)
      | inr f ↦ All-filter (other_than held) P homes (none_is c homes f)
    ]) in
    AllPairs-cons (λ x y. x ≡ y → ⊥) c (asked_homes held homes ++ filter (other_than c) others)
    (All-append P (asked_homes held homes) (filter (other_than c) others) front past)
    (apart_filters (other_than held) (other_than c) homes others (apart_nodes list p))

-- the coordinator, those that it asks and those that may stand in are all different
pub apart_asked : (list : Preferred) (what : What) (c : ℕ) → IsPreferred list
    → IsDistinct nat_eq (c ∷ nodes_asked (home_asks what (home_for (homes_in list) c)
    (homes_in list)) ++ stand_ins_of list.nodes list.n c)
apart_asked list what c p = let P : List ℕ → Type 0 = λ xs. IsDistinct nat_eq
    (c ∷ xs ++ stand_ins_of list.nodes list.n c) in
    let rest : List ℕ = c ∷ asked_homes (home_for (homes_in list) c) (homes_in list) ++ stand_ins_of
    list.nodes list.n c in
    subst P (sym (nodes_asked_are what (asked_homes (home_for (homes_in list) c) (homes_in list))))
    (IsDistinct-from_AllPairs Decides-eqb rest (apart_rest list c p))

-- a node that may hold for a home is the home, or no home
holds_how : (homes : List ℕ) (node home : ℕ) → IsTrue (may_hold homes node home) → (node ≡ home)
    ⊎ (is_home homes node ≡ false)
holds_how homes node home e =
    elim (or_cases (node == home) (not (is_home homes node)) (and_parts (is_home homes home)
    ((node == home) || not (is_home homes node)) e).1) [
      | inl same ↦ inl (eqb-true node home same)
      | inr other ↦ inr (not-true (is_home homes node) other)
    ]

module _ {J : Type 0} where
  -- where every answer was read, the nodes that may hold for a home that was not served are used up
  pub all_used : (list : Preferred) (what : What) (c : ℕ) (told : Told J) (left : List ℕ)
      → HasRead what (home_asks what (home_for (homes_in list) c) (homes_in list)) (stand_ins_of
      list.nodes list.n c) told.asks told.replies left → AllAnswered told → AllUsed list what c
      told
  all_used list what c told left i answered home in_homes other un node in_nodes may =
      let held : ℕ = home_for (homes_in list) c in
      let ss : List ℕ = stand_ins_of list.nodes list.n c in
      let hs : List ℕ = asked_homes held (homes_in list) in
      let in_asked : Contains hs home = filter_in (other_than held) (homes_in list) home in_homes
      (is_other home held other) in
      let at : (k : ℕ) × (a : Asked) × (slice_get (map (λ h. ask_of what h h 0) hs) k ≡ Some a)
      × (a.home ≡ home) = asked_at what hs home in_asked in
      let none : left ≡ [] = none_left what (home_asks what held (homes_in list)) ss told.asks
      told.replies left home at.0 at.1 i answered un at.2 at.3 in
      let P : List ℕ → Type 0 = λ ls. nodes_asked told.asks ++ ls ≡ nodes_asked (home_asks what held
      (homes_in list)) ++ ss in
      let all : nodes_asked told.asks ≡ hs ++ ss = sym (append-nil (nodes_asked told.asks))
      ∙ (subst P none i.whom ∙ ap (λ xs. xs ++ ss) (nodes_asked_are what hs)) in
      let Q : List ℕ → Type 0 = λ xs. Contains xs node in
      elim (holds_how (homes_in list) node home may) [
        | inl same ↦ (let R : ℕ → Type 0 = λ x. Contains hs x in inr (subst Q (sym all)
            (Contains-append_left hs ss node (subst R (sym same) in_asked))))
        | inr no_home ↦ elim (cases_eq node c) [
          | inl same ↦ inl same
          | inr not_c ↦ elim (Contains-append_cases (homes_in list) (drop list.n list.nodes) node
              (subst Q (sym (take-append-drop list.n list.nodes)) in_nodes)) [
                | inl home_too ↦ absurd (true≢false (sym (any_from (λ h. h == node)
                    (homes_in list) node home_too (eq-eqb node node refl)) ∙ no_home))
                | inr past ↦ inr (subst Q (sym all) (Contains-append_right hs ss node
                    (filter_in (other_than c) (drop list.n list.nodes) node past (is_other node c
                    not_c))))
              ]
        ]
      ]
