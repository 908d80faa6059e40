-- A set has one list of maximal runs.
use Rattle.std.proofs.Common.{◌≡◌, ℕ, suc, ◌+◌, ◌<◌, ◌≤◌, Bool, true, false, ◌||◌, List, [], ◌∷◌, refl, sym, ap, ◌∙◌, inl, inr, arith, subst, length, nat_eq, ◌↔◌}
use Rattle.std.proofs.lemmas.Bool.{true≢false}
use Rattle.std.proofs.lemmas.Bool.Decides.{nat_tests}
use Rattle.std.specs.FinSet as set
use Rattle.dy_dots.specs.Dots.{DotSet, dot_cmp}
use Rattle.dy_dots.specs.Runs.{in_run, in_runs, RiseFrom, AreApart, set_of}
use Rattle.dy_dots.specs.Spelling.{Spells, runs_text}
use Rattle.dy_dots.specs.declared.dots.Dot.{Dot}
use Rattle.dy_dots.specs.declared.runs.Run.{Run}
use Rattle.dy_dots.proofs.Lists.{IsBefore, none_before}
use Rattle.dy_dots.proofs.Sets.{contains-set_of}

abbrev at : ℕ → ℕ → Dot
at node counter = record { node = node; counter = counter }

in_first : (r : Run) (rs : List Run) → r.first ≤ r.last → in_runs (r ∷ rs) (at r.node r.first) ≡ true
in_first r rs valid = ap (λ b. b || in_runs rs (at r.node r.first)) (here r valid)
  where
    here : (x : Run) → x.first ≤ x.last → in_run x (at x.node x.first) ≡ true
    here x v = grind (arith, nat_tests)

from_own : (n c : ℕ) (r : Run) (rs : List Run) → RiseFrom n c (r ∷ rs) → RiseFrom r.node r.first (r ∷ rs)
from_own n c r rs rise = (inr (refl, omega arith), rise.1, rise.2)

-- no run of the one starts before the first of the other
not_earlier : (n c m k : ℕ) (x y : Run) (xs ys : List Run) → RiseFrom n c (x ∷ xs) → RiseFrom m k (y ∷ ys) → ((q : Dot) → in_runs (x ∷ xs) q ≡ in_runs (y ∷ ys) q) → IsBefore (at x.node x.first) y.node y.first → ⊥
not_earlier n c m k x y xs ys rx ry same before =
    true≢false (sym (in_first x xs rx.1) ∙ same (at x.node x.first) ∙ none_before y.node y.first (y ∷ ys) (at x.node x.first) (from_own m k y ys ry) before)

past : (x : Run) → in_run x (at x.node (x.last + 1)) ≡ false
past x = grind (arith, nat_tests)

within : (x y : Run) → x.node ≡ y.node → x.first ≡ y.first → x.first ≤ x.last → x.last < y.last → in_run y (at x.node (x.last + 1)) ≡ true
within x y n f v l = grind (arith, nat_tests)

not_shorter : (n c : ℕ) (x y : Run) (xs ys : List Run) → RiseFrom n c (x ∷ xs) → ((q : Dot) → in_runs (x ∷ xs) q ≡ in_runs (y ∷ ys) q) → x.node ≡ y.node → x.first ≡ y.first → x.last < y.last → ⊥
not_shorter n c x y xs ys rx same node first shorter =
    let d : Dot = at x.node (x.last + 1) in
    let mine : in_runs (x ∷ xs) d ≡ false = ap (λ b. b || in_runs xs d) (past x) ∙ none_before x.node (x.last + 2) xs d rx.2 (inr (refl, omega arith)) in
    let yours : in_runs (y ∷ ys) d ≡ true = ap (λ b. b || in_runs ys d) (within x y node first rx.1 shorter) in
    true≢false (sym yours ∙ sym (same d) ∙ mine)

before_end : (x : Run) (q : Dot) → in_run x q ≡ true → (x.node ≡ q.node) × (q.counter < x.last + 2)
before_end x q e = (grind (arith, nat_tests), grind (arith, nat_tests))

rest_same : (x : Run) (xs ys : List Run) (q : Dot) (b : Bool) → in_run x q ≡ b → RiseFrom x.node (x.last + 2) xs → RiseFrom x.node (x.last + 2) ys → (b || in_runs xs q) ≡ (b || in_runs ys q) → in_runs xs q ≡ in_runs ys q
rest_same x xs ys q true e rx ry same =
    let end = before_end x q e in
    let before : IsBefore q x.node (x.last + 2) = inr (sym end.0, end.1) in
    none_before x.node (x.last + 2) xs q rx before ∙ sym (none_before x.node (x.last + 2) ys q ry before)
rest_same x xs ys q false e rx ry same = same

pub same_runs : (n c : ℕ) (xs ys : List Run) → RiseFrom n c xs → RiseFrom n c ys → ((q : Dot) → in_runs xs q ≡ in_runs ys q) → xs ≡ ys
same_runs n c [] [] rx ry same = refl
same_runs n c [] (y ∷ ys) rx ry same = absurd (true≢false (sym (in_first y ys ry.1) ∙ sym (same (at y.node y.first))))
same_runs n c (x ∷ xs) [] rx ry same = absurd (true≢false (sym (in_first x xs rx.1) ∙ same (at x.node x.first)))
same_runs n c (x ∷ xs) (y ∷ ys) rx ry same =
    let back : (q : Dot) → in_runs (y ∷ ys) q ≡ in_runs (x ∷ xs) q = λ q. sym (same q) in
    let a : IsBefore (at x.node x.first) y.node y.first → ⊥ = not_earlier n c n c x y xs ys rx ry same in
    let b : IsBefore (at y.node y.first) x.node x.first → ⊥ = not_earlier n c n c y x ys xs ry rx back in
    let a_node : x.node < y.node → ⊥ = λ h. a (inl h) in
    let b_node : y.node < x.node → ⊥ = λ h. b (inl h) in
    let node : x.node ≡ y.node = omega arith in
    let a_first : x.first < y.first → ⊥ = λ h. a (inr (node, h)) in
    let b_first : y.first < x.first → ⊥ = λ h. b (inr (sym node, h)) in
    let first : x.first ≡ y.first = omega arith in
    let a_last : x.last < y.last → ⊥ = not_shorter n c x y xs ys rx same node first in
    let b_last : y.last < x.last → ⊥ = not_shorter n c y x ys xs ry back (sym node) (sym first) in
    let last : x.last ≡ y.last = omega arith in
    let heads : x ≡ y = λ i. record { node = node i; first = first i; last = last i } in
    let rest : RiseFrom x.node (x.last + 2) ys = subst (λ z. RiseFrom z.node (z.last + 2) ys) (sym heads) ry.2 in
    let tails : xs ≡ ys = same_runs x.node (x.last + 2) xs ys rx.2 rest (λ q.
    rest_same x xs ys q (in_run x q) refl rx.2 rest (same q ∙ ap (λ z. in_run z q || in_runs ys q) (sym heads))) in
    λ i. heads i ∷ tails i

pub one_spelling : (s : DotSet) (a b : List ℕ) → Spells a s → Spells b s → a ≡ b
one_spelling s a b p q =
    p.bytes_are ∙ ap runs_text (same_runs 0 0 p.runs q.runs p.are_runs.apart q.are_runs.apart (λ d. sym (p.are_runs.members d) ∙ q.are_runs.members d)) ∙ sym q.bytes_are

length_some : (rs : List Run) → nat_eq (suc (length rs)) 0 ≡ false
length_some rs = grind (arith, nat_tests)

-- a set is empty where it has no runs
pub empty_is : (rs : List Run) (s : DotSet) (b : Bool) → AreApart rs → set_of rs ≡ s → b ≡ nat_eq (length rs) 0 → (b ≡ true) ↔ (s ≡ set.empty)
empty_is [] s b apart is e = (λ _. sym is, λ _. e)
empty_is (r ∷ rs) s b apart is e = (
  λ y. absurd (true≢false (sym y ∙ e ∙ length_some rs)),
  λ none. absurd (true≢false (sym (in_first r rs apart.1) ∙ sym (contains-set_of (r ∷ rs) (at r.node r.first)) ∙ ap (λ t. set.contains t (at r.node r.first)) (is ∙ none) ∙ set.contains-empty dot_cmp _)),
)
