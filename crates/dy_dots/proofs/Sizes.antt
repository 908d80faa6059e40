-- How many dots runs have, and which runs a text may name.
use Rattle.std.proofs.Common.{◌≡◌, ℕ, zero, suc, ◌+◌, ◌-◌, ◌<◌, ◌≤◌, ◌==◌, Bool, true, false, cond, ◌&&◌, ◌||◌, List, [], ◌∷◌, refl, sym, ap, ◌∙◌, inl, inr, arith, nat_lt, nat_le, ◌*◌, length, get_or, drop}
use Rattle.std.proofs.lemmas.Bool.{ltb-true, leb-true, eqb-true, lt-ltb, le-leb, eq-eqb}
use Rattle.std.proofs.lemmas.Bool.Decides.{nat_tests}
use Rattle.std.specs.FinSet as set
use Rattle.dy_dots.specs.Dots.{DotSet, IsDot, AreDots}
use Rattle.dy_dots.specs.Runs.{in_run, in_runs, StartsFrom, RiseFrom, AreApart, AreKept, AreRunsOf, with_counters, set_of}
use Rattle.dy_dots.specs.inside.Kinds.{count_of}
use Rattle.dy_dots.specs.Spelling.{IsReadable}
use Rattle.dy_dots.specs.inside.Reading.{allowed, all_allowed}
use Rattle.dy_dots.specs.declared.dots.Dot.{Dot}
use Rattle.dy_dots.specs.declared.runs.Run.{Run}
use Rattle.dy_dots.proofs.Lists.{none_before, from_place}
use Rattle.dy_dots.proofs.Sets.{dot_total, contains-with_counters, contains-set_of, set_of_is, or_either}

not_yet : (node first n : ℕ) → ((node == node) && (nat_le first (first + n) && nat_lt (first + n) (first + n))) ≡ false
not_yet node first n = grind (arith, nat_tests)

len_counters : (s : DotSet) (node first n : ℕ) → ((k : ℕ) → k < n → set.contains s (record { node = node; counter = first + k }) ≡ false) → set.len (with_counters s node first n) ≡ set.len s + n
len_counters s node first zero fresh = omega arith
len_counters s node first (suc n) fresh =
    let d : Dot = record { node = node; counter = first + n } in
    let w : DotSet = with_counters s node first n in
    let absent : set.contains w d ≡ false =
    contains-with_counters s node first n d ∙ ap (λ b. b || set.contains s d) (not_yet node first n) ∙ fresh n (omega arith) in
    let before : set.len w ≡ set.len s + n = len_counters s node first n (λ k lt. fresh k (omega arith)) in
    set.len-insert dot_total w d ∙ ap (λ b. cond b (set.len w) (set.len w + 1)) absent ∙ ap (λ k. k + 1) before ∙ omega arith

pub len_set_of : (n c : ℕ) (rs : List Run) → RiseFrom n c rs → set.len (set_of rs) ≡ count_of rs
len_set_of n c [] rise = set.len-empty _
len_set_of n c (r ∷ rs) rise =
    let rest : set.len (set_of rs) ≡ count_of rs = len_set_of r.node (r.last + 2) rs rise.2 in
    len_counters (set_of rs) r.node r.first (r.last + 1 - r.first) (λ k lt.
    contains-set_of rs _ ∙ none_before r.node (r.last + 2) rs (record { node = r.node; counter = r.first + k }) rise.2 (inr (refl, omega arith)))
    ∙ ap (λ k. k + (r.last + 1 - r.first)) rest ∙ omega arith

and_left : (a b : Bool) → (a && b) ≡ true → a ≡ true
and_left true b e = refl
and_left false b e = e

and_right : (a b : Bool) → (a && b) ≡ true → b ≡ true
and_right true b e = e
and_right false b e = cc

and_both : (a b : Bool) → a ≡ true → b ≡ true → (a && b) ≡ true
and_both true b p q = q
and_both false b p q = p

or_left : (a b : Bool) → a ≡ true → (a || b) ≡ true
or_left true b e = refl
or_left false b e = cc

or_right : (a b : Bool) → b ≡ true → (a || b) ≡ true
or_right true b e = refl
or_right false b e = e

-- the counters and the node of a run are those that a text may name
abbrev pub IsSmall : Run → Type 0
IsSmall r = (r.node < 32) × (1 ≤ r.first) × (r.first ≤ r.last) × (r.last ≤ 1000000)

abbrev pub AreSmall : List Run → Type 0
AreSmall [] = Unit {0}
AreSmall (r ∷ rs) = IsSmall r × AreSmall rs

starts : (n c : ℕ) (r : Run) → (nat_lt n r.node || ((n == r.node) && nat_le c r.first)) ≡ true → StartsFrom n c r
starts n c r e =
    or_either _ _ _ e (λ p. inl (ltb-true _ _ p)) (λ p. inr (eqb-true _ _ (and_left _ _ p), leb-true _ _ (and_right (n == r.node) _ p)))

from_starts : (n c : ℕ) (r : Run) → StartsFrom n c r → (nat_lt n r.node || ((n == r.node) && nat_le c r.first)) ≡ true
from_starts n c r (inl p) = or_left _ _ (lt-ltb _ _ p)
from_starts n c r (inr p) = or_right (nat_lt n r.node) _ (and_both _ _ (eq-eqb _ _ p.0) (le-leb _ _ p.1))

small : (r : Run) (n c room : ℕ) → allowed n c room r ≡ true → StartsFrom n c r × IsSmall r × (r.last - r.first < room)
small r n c room e =
    let one = and_right (nat_lt r.node 32) _ e in
    let two = and_right (nat_lt n r.node || ((n == r.node) && nat_le c r.first)) _ one in
    let three = and_right (nat_le 1 r.first) _ two in
    let four = and_right (nat_le r.first r.last) _ three in
    let five = and_right (nat_le r.last 1000000) _ four in (
      starts n c r (and_left _ _ one),
      (ltb-true _ _ (and_left _ _ e), leb-true _ _ (and_left _ _ two), leb-true _ _ (and_left _ _ three), leb-true _ _ (and_left _ _ four)),
      ltb-true _ _ five,
    )

pub allowed_gives : (n c room : ℕ) (rs : List Run) → all_allowed n c room rs ≡ true → RiseFrom n c rs × AreSmall rs × (count_of rs ≤ room)
allowed_gives n c room [] e = (tt, tt, omega arith)
allowed_gives n c room (r ∷ rs) e =
    let first = small r n c room (and_left _ _ e) in
    let rest = allowed_gives r.node (r.last + 2) (room - (r.last - r.first + 1)) rs (and_right (allowed n c room r) _ e) in
    ((first.0, first.1.2, rest.0), (first.1, rest.1), omega (arith, first.1.2, first.2, rest.2))

pub gives_allowed : (n c room : ℕ) (rs : List Run) → RiseFrom n c rs → AreSmall rs → count_of rs ≤ room → all_allowed n c room rs ≡ true
gives_allowed n c room [] rise smalls few = refl
gives_allowed n c room (r ∷ rs) rise smalls few =
    and_both (allowed n c room r) _
    (and_both _ _ (lt-ltb _ _ smalls.0.0) (and_both _ _ (from_starts n c r rise.0) (and_both _ _ (le-leb _ _ smalls.0.1) (and_both _ _ (le-leb _ _ smalls.0.2) (and_both _ _ (le-leb _ _ smalls.0.3) (lt-ltb _ _ (omega (arith, smalls.0.2, few))))))))
    (gives_allowed r.node (r.last + 2) (room - (r.last - r.first + 1)) rs rise.2 smalls.1 (omega (arith, smalls.0.2, few)))

in_small : (r : Run) (d : Dot) → IsSmall r → in_run r d ≡ true → IsDot d
in_small r d s e =
    let same : r.node ≡ d.node = eqb-true _ _ (and_left _ _ e) in
    let rest = and_right (r.node == d.node) _ e in
    let low : r.first ≤ d.counter = leb-true _ _ (and_left _ _ rest) in
    let high : d.counter ≤ r.last = leb-true _ _ (and_right (nat_le r.first d.counter) _ rest) in
    (omega (arith, s.0), omega (arith, s.1), omega (arith, s.3))

in_range : (rs : List Run) (d : Dot) → AreSmall rs → in_runs rs d ≡ true → IsDot d
in_range [] d s e = cc
in_range (r ∷ rs) d s e = or_either (in_run r d) (in_runs rs d) _ e (in_small r d s.0) (in_range rs d s.1)

at_first : (r : Run) → r.first ≤ r.last → in_run r (record { node = r.node; counter = r.first }) ≡ true
at_first r v = grind (arith, nat_tests)

at_last : (r : Run) → r.first ≤ r.last → in_run r (record { node = r.node; counter = r.last }) ≡ true
at_last r v = grind (arith, nat_tests)

smalls_from : (n c : ℕ) (rs : List Run) → RiseFrom n c rs → ((d : Dot) → in_runs rs d ≡ true → IsDot d) → AreSmall rs
smalls_from n c [] rise each = tt
smalls_from n c (r ∷ rs) rise each =
    let first = each (record { node = r.node; counter = r.first }) (or_left _ _ (at_first r rise.1)) in
    let last = each (record { node = r.node; counter = r.last }) (or_left _ _ (at_last r rise.1)) in
    ((first.0, first.1, rise.1, last.2), smalls_from r.node (r.last + 2) rs rise.2 (λ d e. each d (or_right (in_run r d) _ e)))

-- the runs of a set of dots are in range
pub smalls_of : (rs : List Run) (s : DotSet) → AreRunsOf rs s → AreDots s → AreSmall rs
smalls_of rs s are dots = smalls_from 0 0 rs are.apart (λ d e. dots d (are.members d ∙ e))

-- the runs of a set that a text may name are allowed
pub readable_runs : (rs : List Run) (s : DotSet) → AreRunsOf rs s → AreDots s → IsReadable s → all_allowed 0 0 100000 rs ≡ true
readable_runs rs s are dots few =
    let size : count_of rs ≡ set.len s = sym (len_set_of 0 0 rs are.apart) ∙ ap set.len (set_of_is rs s are.members) in
    gives_allowed 0 0 100000 rs are.apart (smalls_of rs s are dots) (omega (arith, few))

-- and allowed runs are such as a context keeps, and a text may name their set
pub allowed_kept : (rs : List Run) → all_allowed 0 0 100000 rs ≡ true → AreKept rs
allowed_kept rs e =
    let facts = allowed_gives 0 0 100000 rs e in
    record { apart = facts.0; dots = λ d h. in_range rs d facts.1 h }

pub allowed_readable : (rs : List Run) → all_allowed 0 0 100000 rs ≡ true → IsReadable (set_of rs)
allowed_readable rs e =
    let facts = allowed_gives 0 0 100000 rs e in
    let size : set.len (set_of rs) ≡ count_of rs = len_set_of 0 0 rs facts.0 in
    omega (arith, facts.2)

pub kept_dots : (rs : List Run) (s : DotSet) → AreKept rs → set_of rs ≡ s → AreDots s
kept_dots rs s kept is d h = kept.dots d (sym (contains-set_of rs d) ∙ ap (λ t. set.contains t d) is ∙ h)

pub own_runs : (rs : List Run) → AreApart rs → AreRunsOf rs (set_of rs)
own_runs rs apart = record { apart = apart; members = contains-set_of rs }

pub count_at : (rs : List Run) (i : ℕ) (r : Run) → i < length rs → r ≡ get_or rs i r → count_of (drop i rs) ≡ (r.last + 1 - r.first) + count_of (drop (i + 1) rs)
count_at rs i r lt read =
    let next : suc i ≡ i + 1 = omega arith in
    ap count_of (from_place rs i r lt) ∙ ap (λ z. count_of (z ∷ drop (suc i) rs)) (sym read) ∙ ap (λ k. count_of (r ∷ drop k rs)) next

-- each counter from this place on may be in the runs once
bounded : (n c : ℕ) (rs : List Run) → RiseFrom n c rs → AreSmall rs → n ≤ 31 → c ≤ 1000002 → 1 ≤ c → count_of rs + n * 1000000 + c ≤ 32000002
bounded n c [] rise small low fits one = omega arith
bounded n c (r ∷ rs) rise small low fits one = go (bounded r.node (r.last + 2) rs rise.2 small.1 (omega (arith, small.0.0)) (omega (arith, small.0.3)) (omega arith)) rise.0
  where
    go : count_of rs + r.node * 1000000 + (r.last + 2) ≤ 32000002 → StartsFrom n c r → count_of (r ∷ rs) + n * 1000000 + c ≤ 32000002
    go rest (inl p) = omega (arith, rest, p, small.0, rise.1)
    go rest (inr p) = omega (arith, rest, p.0, p.1, small.0, rise.1)

pub count_small : (rs : List Run) → AreKept rs → count_of rs ≤ 32000001
count_small rs kept = go rs kept.apart (smalls_from 0 0 rs kept.apart kept.dots)
  where
    from_one : (r : Run) → StartsFrom 0 0 r → 1 ≤ r.first → StartsFrom 0 1 r
    from_one r (inl p) one = inl p
    from_one r (inr p) one = inr (p.0, one)

    go : (xs : List Run) → AreApart xs → AreSmall xs → count_of xs ≤ 32000001
    go [] apart small = omega arith
    go (r ∷ xs) apart small =
        let all = bounded 0 1 (r ∷ xs) (from_one r apart.0 small.0.1, apart.1, apart.2) small (omega arith) (omega arith) (omega arith) in
        omega (arith, all)
