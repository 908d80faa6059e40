-- The homes that are noted: none twice, and each a home of the list. So they are no more than the
-- homes, and each may be asked for itself.
use Rattle.std.proofs.Common.{◌≡◌, ◌≤◌, ◌∷◌, ◌==◌, ◌||◌, not, [], List, ℕ}
use Rattle.std.proofs.Common.{true, false, length, map, take, get_or, nat_eq, refl, sym, ◌∙◌}
use Rattle.std.proofs.Common.{ap, subst, arith, inl, inr, IsTrue}
use Rattle.std.proofs.lemmas.Bool.{and_from, or_left, cases_Bool, cases_lt, eq-eqb, eqb-true}
use Rattle.std.proofs.lemmas.Bool.{true≢false}
use Rattle.std.proofs.lemmas.List.{length-take-le}
use Rattle.std.proofs.lemmas.List.Elements.{All-head, All-tail, Contains-get_or}
use Rattle.std.proofs.lemmas.List.Elements.{Contains-push_cases}
use Rattle.std.proofs.lemmas.Map.Keys.{IsDistinct-push}
use Rattle.std.specs.Cmp.{nat_eq_equiv}
use Rattle.std.specs.List.{All, Contains, IsDistinct, filter, fold, list_any}
use Rattle.dy_dots.specs.declared.nodes.TheConstants.{MAX_NODES}
use Rattle.dy_siblings.proofs.Members.{not_in_nil, any_gives, any_from, none_from, filter_from}
use Rattle.dy_ring.specs.Rings.{Tokens}
use Rattle.dy_preference.specs.Preferences.{IsPreferred, Preferred, homes_of, is_home, may_hold}
use Rattle.dy_preference.specs.Preferences.{preference_of}
use Rattle.dy_core.proofs.Pigeons.{AreIn, shared}
use Rattle.dy_core.specs.Logs.{Answer}
use Rattle.dy_shares.proofs.Scenes.{none_twice}
use Rattle.dy_reads.specs.Lists.{homes_in}
use Rattle.dy_repair.specs.Repairs.{homes_once, with_node}

is_in : (nodes : List ℕ) (node : ℕ) → is_home nodes node ≡ true → Contains nodes node
is_in nodes node has =
    let found = any_gives (λ n. n == node) nodes has in
    subst (Contains nodes) (eqb-true found.item node found.passes) found.in_list

lacks : (nodes : List ℕ) (node : ℕ) → is_home nodes node ≡ false →
    list_any (nat_eq node) nodes ≡ false
lacks nodes node without = none_from (nat_eq node) nodes (λ x in_nodes same.
    true≢false
    (sym (any_from (λ n. n == node) nodes x in_nodes
    (eq-eqb x node (sym (eqb-true node x same)))) ∙ without))

distinct_more : (nodes : List ℕ) (node : ℕ) → IsDistinct nat_eq nodes →
    IsDistinct nat_eq (with_node nodes node)
distinct_more nodes node d = elim (cases_Bool (is_home nodes node)) [
  | inl has ↦ rw has d
  | inr without ↦ rw without (IsDistinct-push nat_eq_equiv nodes node d (lacks nodes node without))
]

distinct_all : (xs nodes : List ℕ) → IsDistinct nat_eq nodes →
    IsDistinct nat_eq (fold with_node nodes xs)
distinct_all [] nodes d = d
distinct_all (x ∷ xs) nodes d = distinct_all xs (with_node nodes x) (distinct_more nodes x d)

in_more : (homes nodes : List ℕ) (node : ℕ) → AreIn homes nodes → Contains homes node →
    AreIn homes (with_node nodes node)
in_more homes nodes node within c = elim (cases_Bool (is_home nodes node)) [
  | inl has ↦ rw has within
  | inr without ↦ rw without (λ x h. elim (Contains-push_cases nodes node x h) [
    | inl before ↦ within x before
    | inr last ↦ subst (Contains homes) last c
  ])
]

in_all : (homes xs nodes : List ℕ) → AreIn homes nodes → All (λ x. Contains homes x) xs →
    AreIn homes (fold with_node nodes xs)
in_all homes [] nodes within all = within
in_all homes (x ∷ xs) nodes within all =
    in_all homes xs (with_node nodes x)
    (in_more homes nodes x within (All-head (λ y. Contains homes y) x xs all))
    (All-tail (λ y. Contains homes y) x xs all)

once_in : (homes : List ℕ) (answers : List Answer) → AreIn homes (homes_once homes answers)
once_in homes answers =
    let nodes : List ℕ = map (λ a. a.home) answers in
    in_all homes (filter (is_home homes) nodes) [] (λ x h. absurd (not_in_nil x h)) (λ k d lt.
    is_in homes _
    (filter_from (is_home homes) nodes _
    (Contains-get_or (filter (is_home homes) nodes) k d lt)).1)

no_more : (xs ys : List ℕ) → IsDistinct nat_eq xs → AreIn ys xs → length xs ≤ length ys
no_more xs ys d within = elim (cases_lt (length ys) (length xs)) [
  | inl more ↦ (let none : AreIn ys [] = λ x h. absurd (not_in_nil x h) in
      let both = shared xs [] ys d none_twice within none (omega (arith, more)) in
      absurd (not_in_nil both.number both.in_second))
  | inr few ↦ few
]

-- there are no more than a ring may have nodes
pub once_few : (list : Preferred) (answers : List Answer) → IsPreferred list →
    length (homes_once (homes_in list) answers) ≤ MAX_NODES
once_few list answers p =
    let noted : List ℕ = homes_once (homes_in list) answers in
    let d : IsDistinct nat_eq noted =
    distinct_all (filter (is_home (homes_in list)) (map (λ a. a.home) answers)) [] none_twice in
    let l : length noted ≤ length (homes_in list) =
    no_more noted (homes_in list) d (once_in (homes_in list) answers) in
    let n : length (homes_in list) ≡ list.n = length-take-le list.n list.nodes p.enough in
    let e = p.enough in
    let f = p.few in
    omega (arith, l, n, e, f)

own_may : (homes : List ℕ) (home : ℕ) → Contains homes home → IsTrue (may_hold homes home home)
own_may homes home c =
    and_from (is_home homes home) ((home == home) || not (is_home homes home))
    (any_from (λ h. h == home) homes home c (eq-eqb home home refl))
    (or_left (home == home) (not (is_home homes home)) (eq-eqb home home refl))

-- each of them may be asked for itself
pub once_may : (ring : Tokens) (n : ℕ) (key : List ℕ) (list : Preferred) (answers : List Answer) →
    list.nodes ≡ preference_of ring key → list.n ≡ n →
    All (λ home. IsTrue (may_hold (homes_of ring n key) home home))
    (homes_once (homes_in list) answers)
once_may ring n key list answers nodes count k d lt =
    let homes : List ℕ = homes_in list in
    let home : ℕ = get_or (homes_once homes answers) k d in
    let same : homes ≡ homes_of ring n key =
    ap (λ j. take j list.nodes) count ∙ ap (λ xs. take n xs) nodes in
    subst (λ hs. IsTrue (may_hold hs home home)) same
    (own_may homes home
    (once_in homes answers home (Contains-get_or (homes_once homes answers) k d lt)))
