-- Lists of runs.
use Rattle.std.proofs.Common.{◌≡◌, ℕ, zero, suc, ◌+◌, ◌<◌, ◌≤◌, Bool, true, false, ◌||◌, List, [], ◌∷◌, ◌++◌, take, drop, length, get_or, refl, sym, ap, ◌∙◌, inl, inr, ◌⊎◌, arith, max, take-append-drop, take_all, subst, drop-cons, set, insert, remove}
use Rattle.std.proofs.lemmas.List.{get_or_read, drop_all}
use Rattle.std.proofs.lemmas.Bool.Decides.{nat_tests}
use Rattle.std.specs.List.{list_any}
use Rattle.std.proofs.lemmas.List.Folds.{list_any-append, list_any_at}
use Rattle.dy_dots.specs.Runs.{single}
use Rattle.dy_dots.specs.inside.Kinds.{joined, covers_run, IsBelow, IsReached, Added}
use Rattle.dy_dots.specs.Runs.{in_run, in_runs, StartsFrom, RiseFrom, AreApart}
use Rattle.dy_dots.specs.declared.dots.Dot.{Dot}
use Rattle.dy_dots.specs.declared.runs.Run.{Run}

-- what b adds at a's end
pub in_joined : (a b : Run) (q : Dot) → a.node ≡ b.node → a.first ≤ b.first → b.first ≤ a.last + 1 → a.first ≤ a.last → b.first ≤ b.last → in_run (joined a b) q ≡ (in_run a q || in_run b q)
in_joined a b q same first reach va vb = grind (arith, nat_tests)

-- an earlier start
pub rise_earlier : (n c m k : ℕ) (rs : List Run) → (n < m) ⊎ ((n ≡ m) × (c ≤ k)) → RiseFrom m k rs → RiseFrom n c rs
rise_earlier n c m k [] by rise = tt
rise_earlier n c m k (r ∷ rs) by rise = (starts by rise.0, rise.1, rise.2)
  where
    starts : (n < m) ⊎ ((n ≡ m) × (c ≤ k)) → StartsFrom m k r → StartsFrom n c r
    starts (inl p) (inl q) = inl (omega arith)
    starts (inl p) (inr q) = inl (omega arith)
    starts (inr p) (inl q) = inl (omega arith)
    starts (inr p) (inr q) = inr (omega arith, omega arith)

-- a dot before the start
abbrev pub IsBefore : Dot → ℕ → ℕ → Type 0
IsBefore d n c = (d.node < n) ⊎ ((d.node ≡ n) × (d.counter < c))

not_in_run : (n c : ℕ) (r : Run) (d : Dot) → StartsFrom n c r → IsBefore d n c → in_run r d ≡ false
not_in_run n c r d (inl p) (inl q) = grind (arith, nat_tests)
not_in_run n c r d (inl p) (inr q) = grind (arith, nat_tests)
not_in_run n c r d (inr p) (inl q) = grind (arith, nat_tests)
not_in_run n c r d (inr p) (inr q) = grind (arith, nat_tests)

before_more : (n c : ℕ) (r : Run) (d : Dot) → StartsFrom n c r → r.first ≤ r.last → IsBefore d n c → IsBefore d r.node (r.last + 2)
before_more n c r d (inl p) valid (inl q) = inl (omega arith)
before_more n c r d (inl p) valid (inr q) = inl (omega arith)
before_more n c r d (inr p) valid (inl q) = inl (omega arith)
before_more n c r d (inr p) valid (inr q) = inr (omega arith, omega arith)

pub none_before : (n c : ℕ) (rs : List Run) (d : Dot) → RiseFrom n c rs → IsBefore d n c → in_runs rs d ≡ false
none_before n c [] d rise before = refl
none_before n c (r ∷ rs) d rise before =
    let head = not_in_run n c r d rise.0 before in
    let tail = none_before r.node (r.last + 2) rs d rise.2 (before_more n c r d rise.0 rise.1 before) in
    rw (head, tail) refl

-- the runs below a run hold none of its dots
not_below : (a x : Run) (d : Dot) → IsBelow a x → x.node ≡ d.node → x.first ≤ d.counter → in_run a d ≡ false
not_below a x d (inl p) n c = grind (arith, nat_tests)
not_below a x d (inr p) n c = grind (arith, nat_tests)

pub none_below : (rs : List Run) (i : ℕ) (x : Run) (d : Dot) → ((k : ℕ) → k < i → IsBelow (get_or rs k x) x) → i ≤ length rs → x.node ≡ d.node → x.first ≤ d.counter → in_runs (take i rs) d ≡ false
none_below [] zero x d below le n c = refl
none_below [] (suc i) x d below le n c = refl
none_below (r ∷ rs) zero x d below le n c = refl
none_below (r ∷ rs) (suc i) x d below le n c =
    let head = not_below r x d (below zero (omega arith)) n c in
    let tail = none_below rs i x d (λ k lt. below (suc k) (omega arith)) (omega arith) n c in
    rw (head, tail) refl

pub or_assoc : (a b c : Bool) → ((a || b) || c) ≡ (a || (b || c))
or_assoc true b c = refl
or_assoc false b c = refl

pub or_false : (a : Bool) → (a || false) ≡ a
or_false true = refl
or_false false = refl

pub rise_drop : (n c : ℕ) (rs : List Run) (i : ℕ) (d : Run) → RiseFrom n c rs → i < length rs → ((get_or rs i d).first ≤ (get_or rs i d).last) × RiseFrom (get_or rs i d).node ((get_or rs i d).last + 2) (drop (suc i) rs)
rise_drop n c [] i d rise lt = absurd (omega arith)
rise_drop n c (r ∷ rs) zero d rise lt = (rise.1, rise.2)
rise_drop n c (r ∷ rs) (suc i) d rise lt = rise_drop r.node (r.last + 2) rs i d rise.2 (omega arith)

-- a run in the place of others
pub rise_edit : (n c : ℕ) (rs : List Run) (i : ℕ) (y x : Run) (tail : List Run) → RiseFrom n c rs → StartsFrom n c x → ((k : ℕ) → k < i → IsBelow (get_or rs k y) x) → i ≤ length rs → x.first ≤ x.last → RiseFrom x.node (x.last + 2) tail → RiseFrom n c (take i rs ++ x ∷ tail)
rise_edit n c [] zero y x tail rise from below le valid later = (from, valid, later)
rise_edit n c [] (suc i) y x tail rise from below le valid later = (from, valid, later)
rise_edit n c (r ∷ rs) zero y x tail rise from below le valid later = (from, valid, later)
rise_edit n c (r ∷ rs) (suc i) y x tail rise from below le valid later = (
  rise.0,
  rise.1,
  rise_edit r.node (r.last + 2) rs i y x tail rise.2 (below zero (omega arith)) (λ k lt. below (suc k) (omega arith)) (omega arith) valid later,
)

starts_same : (n c : ℕ) (r x : Run) → x.node ≡ r.node → x.first ≡ r.first → StartsFrom n c r → StartsFrom n c x
starts_same n c r x m k (inl p) = inl (omega arith)
starts_same n c r x m k (inr p) = inr (omega arith, omega arith)

-- a run with a later end in the place of one, and of others after it
pub rise_longer : (n c : ℕ) (rs : List Run) (i : ℕ) (y x : Run) (tail : List Run) → RiseFrom n c rs → i < length rs → x.node ≡ (get_or rs i y).node → x.first ≡ (get_or rs i y).first → x.first ≤ x.last → RiseFrom x.node (x.last + 2) tail → RiseFrom n c (take i rs ++ x ∷ tail)
rise_longer n c [] i y x tail rise lt m k valid later = absurd (omega arith)
rise_longer n c (r ∷ rs) zero y x tail rise lt m k valid later = (starts_same n c r x m k rise.0, valid, later)
rise_longer n c (r ∷ rs) (suc i) y x tail rise lt m k valid later =
    (rise.0, rise.1, rise_longer r.node (r.last + 2) rs i y x tail rise.2 (omega arith) m k valid later)

pub starts_zero : (x : Run) → StartsFrom 0 0 x
starts_zero x = go x.node refl
  where
    go : (m : ℕ) → m ≡ x.node → StartsFrom 0 0 x
    go zero e = inr (omega arith, omega arith)
    go (suc m) e = inl (omega arith)

or_three : (a b c d e : Bool) → (b || c) ≡ (d || e) → (a || (b || c)) ≡ (d || (a || e))
or_three true b c true e same = refl
or_three true b c false e same = refl
or_three false b c d e same = same

-- the members after an edit
pub members_edit : (rs : List Run) (i : ℕ) (x : Run) (tail : List Run) (dot : Bool) (q : Dot) → (in_run x q || in_runs tail q) ≡ (dot || in_runs (drop i rs) q) → in_runs (take i rs ++ x ∷ tail) q ≡ (dot || in_runs rs q)
members_edit rs i x tail dot q same =
    let p : Run → Bool = λ r. in_run r q in
    list_any-append p (take i rs) (x ∷ tail)
    ∙ or_three (list_any p (take i rs)) (in_run x q) (list_any p tail) dot (list_any p (drop i rs)) same
    ∙ ap (λ b. dot || b) (sym (list_any-append p (take i rs) (drop i rs)) ∙ ap (list_any p) (take-append-drop i rs))

starts_at : (n c : ℕ) (rs : List Run) (i : ℕ) (d : Run) → RiseFrom n c rs → i < length rs → StartsFrom n c (get_or rs i d)
starts_at n c [] i d rise lt = absurd (omega arith)
starts_at n c (r ∷ rs) zero d rise lt = rise.0
starts_at n c (r ∷ rs) (suc i) d rise lt = far (get_or rs i d) rise.0 (starts_at r.node (r.last + 2) rs i d rise.2 (omega arith))
  where
    far : (y : Run) → StartsFrom n c r → StartsFrom r.node (r.last + 2) y → StartsFrom n c y
    far y (inl p) (inl q) = inl (omega arith)
    far y (inl p) (inr q) = inl (omega arith)
    far y (inr p) (inl q) = inl (omega arith)
    far y (inr p) (inr q) = inr (omega (arith, rise.1), omega (arith, rise.1))

below_chain : (a b x : Run) → b.first ≤ b.last → IsBelow a b → IsBelow b x → IsBelow a x
below_chain a b x valid (inl p) (inl q) = inl (omega arith)
below_chain a b x valid (inl p) (inr q) = inl (omega arith)
below_chain a b x valid (inr p) (inl q) = inl (omega arith)
below_chain a b x valid (inr p) (inr q) = inr (omega arith, omega arith)

-- the runs before one below are below too
below_to : (n c : ℕ) (rs : List Run) (m : ℕ) (x : Run) → RiseFrom n c rs → m < length rs → IsBelow (get_or rs m x) x → (k : ℕ) → k ≤ m → IsBelow (get_or rs k x) x
below_to n c [] m x rise lt is k le = absurd (omega arith)
below_to n c (r ∷ rs) zero x rise lt is zero le = is
below_to n c (r ∷ rs) zero x rise lt is (suc k) le = absurd (omega arith)
below_to n c (r ∷ rs) (suc m) x rise lt is zero le =
    below_chain r (get_or rs m x) x (rise_drop r.node (r.last + 2) rs m x rise.2 (omega arith)).0 (starts_at r.node (r.last + 2) rs m x rise.2 (omega arith)) is
below_to n c (r ∷ rs) (suc m) x rise lt is (suc k) le = below_to r.node (r.last + 2) rs m x rise.2 (omega arith) is k (omega arith)

pub below_next : (rs : List Run) (m : ℕ) (x y : Run) → AreApart rs → m < length rs → y ≡ get_or rs m y → IsBelow y x → (k : ℕ) → k < m + 1 → IsBelow (get_or rs k x) x
below_next rs m x y rise lt read is k le = below_to 0 0 rs m x rise lt (subst (λ z. IsBelow z x) (get_or_read rs m y lt read x) is) k (omega arith)

pub reached_at : (rs : List Run) (m : ℕ) (x y : Run) → m < length rs → y ≡ get_or rs m y → IsReached y x → IsReached (get_or rs m x) x
reached_at rs m x y lt read is = subst (λ z. IsReached z x) (get_or_read rs m y lt read x) is

-- a list from a place on
pub from_place : (rs : List Run) (i : ℕ) (x : Run) → i < length rs → drop i rs ≡ get_or rs i x ∷ drop (suc i) rs
from_place rs i x lt = drop-cons rs i x lt

past_reached : (r x : Run) (d : Dot) → x.node ≡ d.node → x.first ≡ d.counter → IsReached r x → IsBefore d r.node (r.last + 2)
past_reached r x d n c (inl p) = inl (omega arith)
past_reached r x d n c (inr p) = inr (omega arith, omega arith)

-- a dot is looked for at its place alone
pub held_at : (rs : List Run) (i : ℕ) (x : Run) (d : Dot) → AreApart rs → x.node ≡ d.node → x.first ≡ d.counter → ((k : ℕ) → k < i → IsBelow (get_or rs k x) x) → i < length rs → IsReached (get_or rs i x) x → in_runs rs d ≡ in_run (get_or rs i x) d
held_at rs i x d apart n c below lt reached =
    let p : Run → Bool = λ r. in_run r d in
    let r : Run = get_or rs i x in
    let first : list_any p (take i rs) ≡ false = none_below rs i x d below (omega arith) n (omega arith) in
    let last : list_any p (drop (suc i) rs) ≡ false = none_before r.node (r.last + 2) _ d (rise_drop 0 0 rs i x apart lt).1 (past_reached r x d n c reached) in
    ap (list_any p) (sym (take-append-drop i rs)) ∙ list_any-append p (take i rs) (drop i rs) ∙ ap (λ b. b || list_any p (drop i rs)) first
    ∙ ap (list_any p) (from_place rs i x lt) ∙ ap (λ b. p r || b) last ∙ or_false (p r)

pub held_nowhere : (rs : List Run) (i : ℕ) (x : Run) (d : Dot) → x.node ≡ d.node → x.first ≤ d.counter → ((k : ℕ) → k < i → IsBelow (get_or rs k x) x) → i ≡ length rs → in_runs rs d ≡ false
held_nowhere rs i x d n c below all = ap (λ l. in_runs l d) (sym (take_all i rs (omega arith))) ∙ none_below rs i x d below (omega arith) n c

set_is : (rs : List Run) (i : ℕ) (x : Run) → i < length rs → set rs i x ≡ take i rs ++ x ∷ drop (suc i) rs
set_is [] i x lt = absurd (omega arith)
set_is (r ∷ rs) zero x lt = refl
set_is (r ∷ rs) (suc i) x lt = ap (λ l. r ∷ l) (set_is rs i x (omega arith))

closed_is : (rs : List Run) (i : ℕ) (x : Run) → suc i < length rs → set (remove rs (suc i)) i x ≡ take i rs ++ x ∷ drop (suc (suc i)) rs
closed_is [] i x lt = absurd (omega arith)
closed_is (r ∷ []) i x lt = absurd (omega arith)
closed_is (r ∷ s ∷ rs) zero x lt = refl
closed_is (r ∷ s ∷ rs) (suc i) x lt = ap (λ l. r ∷ l) (closed_is (s ∷ rs) i x (omega arith))

-- the dot is one of the run's or right beside it
between : (r s : Run) → s.last ≡ s.first → IsReached r s → IsReached s r → (s.node ≡ r.node) × (r.first ≤ s.first + 1) × (s.first ≤ r.last + 1)
between r s one (inl p) (inl q) = absurd (omega arith)
between r s one (inl p) (inr q) = absurd (omega arith)
between r s one (inr p) (inl q) = absurd (omega arith)
between r s one (inr p) (inr q) = (omega arith, omega arith, omega arith)

-- a run of its own
pub add_alone : (rs : List Run) (i : ℕ) (s : Run) → s.last ≡ s.first → AreApart rs → ((k : ℕ) → k < i → IsBelow (get_or rs k s) s) → i ≤ length rs → (i ≡ length rs) ⊎ ((i < length rs) × IsBelow s (get_or rs i s)) → Added rs s (insert rs i s)
add_alone rs i s one apart below le next = (
  rise_edit 0 0 rs i s s (drop i rs) apart (starts_zero s) below le (omega arith) (later next),
  λ q. members_edit rs i s (drop i rs) (in_run s q) q refl,
)
  where
    later : (i ≡ length rs) ⊎ ((i < length rs) × IsBelow s (get_or rs i s)) → RiseFrom s.node (s.last + 2) (drop i rs)
    later (inl e) = subst (RiseFrom s.node (s.last + 2)) (sym (drop_all i rs (omega arith))) tt
    later (inr p) =
        let rest = rise_drop 0 0 rs i s apart p.0 in
        subst (RiseFrom s.node (s.last + 2)) (sym (from_place rs i s p.0)) (p.1, rest.0, rest.1)

-- a run after all others
pub add_last : (rs : List Run) (i : ℕ) (s : Run) → s.last ≡ s.first → AreApart rs → ((k : ℕ) → k < i → IsBelow (get_or rs k s) s) → i ≡ length rs → Added rs s (rs ++ s ∷ [])
add_last rs i s one apart below all =
    subst (Added rs s) (ap (λ l. take i rs ++ s ∷ l) (drop_all i rs (omega arith)) ∙ ap (λ l. l ++ s ∷ []) (take_all i rs (omega arith)))
    (add_alone rs i s one apart below (omega arith) (inl all))

-- before the first of a run
pub add_before : (rs : List Run) (i : ℕ) (s r : Run) → s.last ≡ s.first → AreApart rs → ((k : ℕ) → k < i → IsBelow (get_or rs k s) s) → i < length rs → r ≡ get_or rs i r → IsReached (get_or rs i s) s → IsReached s r → s.first < r.first → Added rs s (set rs i (joined s r))
add_before rs i s r one apart below lt read to from lower =
    let is : r ≡ get_or rs i s = get_or_read rs i r lt read s in
    let rest = rise_drop 0 0 rs i s apart lt in
    let valid : r.first ≤ r.last = subst (λ z. z.first ≤ z.last) (sym is) rest.0 in
    let tail : RiseFrom r.node (r.last + 2) (drop (suc i) rs) = subst (λ z. RiseFrom z.node (z.last + 2) (drop (suc i) rs)) (sym is) rest.1 in
    let same : (s.node ≡ r.node) × (r.first ≤ s.first + 1) × (s.first ≤ r.last + 1) = between r s one (subst (λ z. IsReached z s) (sym is) to) from in
    let x : Run = joined s r in
    subst (Added rs s) (sym (set_is rs i x lt)) (
      rise_edit 0 0 rs i s x (drop (suc i) rs) apart (starts_zero x) below (omega arith) (omega arith)
          (rise_earlier s.node (max s.last r.last + 2) r.node (r.last + 2) _ (inr (same.0, omega arith)) tail),
      λ q. members_edit rs i x (drop (suc i) rs) (in_run s q) q (
          ap (λ b. b || in_runs (drop (suc i) rs) q) (in_joined s r q same.0 (omega arith) (omega arith) (omega arith) valid)
          ∙ or_assoc (in_run s q) (in_run r q) _
          ∙ ap (λ l. in_run s q || l) (ap (λ z. in_run z q || in_runs (drop (suc i) rs) q) is ∙ ap (λ l. in_runs l q) (sym (from_place rs i s lt)))
          ),
    )

pub or_swapped : (a b c : Bool) → ((a || b) || c) ≡ (b || (a || c))
or_swapped true true c = refl
or_swapped true false c = refl
or_swapped false b c = or_assoc false b c

-- right after a run, with a counter missing before the next
pub add_after : (rs : List Run) (i n : ℕ) (s r j : Run) → s.last ≡ s.first → AreApart rs → i < length rs → r ≡ get_or rs i r → IsReached (get_or rs i s) s → IsReached s r → r.last < s.first → j ≡ joined r s → n ≡ i + 1 → (n ≡ length rs) ⊎ ((n < length rs) × IsBelow j (get_or rs n s)) → Added rs s (set rs i j)
add_after rs i n s r j one apart lt read to from higher j_is step next =
    let is : r ≡ get_or rs i s = get_or_read rs i r lt read s in
    let rest = rise_drop 0 0 rs i s apart lt in
    let valid : r.first ≤ r.last = subst (λ z. z.first ≤ z.last) (sym is) rest.0 in
    let same : (s.node ≡ r.node) × (r.first ≤ s.first + 1) × (s.first ≤ r.last + 1) = between r s one (subst (λ z. IsReached z s) (sym is) to) from in
    let j_node : j.node ≡ r.node = ap (λ z. z.node) j_is in
    let j_first : j.first ≡ r.first = ap (λ z. z.first) j_is in
    let j_last : j.last ≡ max r.last s.last = ap (λ z. z.last) j_is in
    subst (Added rs s) (sym (set_is rs i j lt)) (
      rise_longer 0 0 rs i s j (drop (suc i) rs) apart lt (j_node ∙ ap (λ z. z.node) is) (j_first ∙ ap (λ z. z.first) is) (omega arith) (later next),
      λ q. members_edit rs i j (drop (suc i) rs) (in_run s q) q (
          ap (λ b. b || in_runs (drop (suc i) rs) q) (ap (λ z. in_run z q) j_is ∙ in_joined r s q (sym same.0) (omega arith) (omega arith) valid (omega arith))
          ∙ or_swapped (in_run r q) (in_run s q) _
          ∙ ap (λ l. in_run s q || l) (ap (λ z. in_run z q || in_runs (drop (suc i) rs) q) is ∙ ap (λ l. in_runs l q) (sym (from_place rs i s lt)))
          ),
    )
  where
    at : n ≡ suc i
    at = omega arith

    later : (n ≡ length rs) ⊎ ((n < length rs) × IsBelow j (get_or rs n s)) → RiseFrom j.node (j.last + 2) (drop (suc i) rs)
    later (inl e) = subst (RiseFrom j.node (j.last + 2)) (sym (drop_all (suc i) rs (omega arith))) tt
    later (inr p) =
        let end = rise_drop 0 0 rs (suc i) s apart (omega arith) in
        let below : IsBelow j (get_or rs (suc i) s) = subst (λ k. IsBelow j (get_or rs k s)) at p.1 in
        subst (RiseFrom j.node (j.last + 2)) (sym (from_place rs (suc i) s (omega arith))) (below, end.0, end.1)

or_closed : (r s y t : Bool) → (((r || s) || y) || t) ≡ (s || (r || (y || t)))
or_closed true true y t = refl
or_closed true false y t = refl
or_closed false true y t = refl
or_closed false false y t = refl

reached_next : (r s y j : Run) → s.last ≡ s.first → r.first ≤ r.last → r.last < s.first → j ≡ joined r s → StartsFrom r.node (r.last + 2) y → IsReached j y → (j.node ≡ y.node) × (j.first ≤ y.first) × (y.first ≤ j.last + 1) × (r.last + 2 ≤ y.first)
reached_next r s y j one valid higher j_is starts reached = go (ap (λ z. z.node) j_is) (ap (λ z. z.first) j_is) (ap (λ z. z.last) j_is) starts reached
  where
    go : j.node ≡ r.node → j.first ≡ r.first → j.last ≡ max r.last s.last → StartsFrom r.node (r.last + 2) y → IsReached j y → (j.node ≡ y.node) × (j.first ≤ y.first) × (y.first ≤ j.last + 1) × (r.last + 2 ≤ y.first)
    go a b c (inl p) (inl q) = absurd (omega arith)
    go a b c (inl p) (inr q) = absurd (omega arith)
    go a b c (inr p) (inl q) = absurd (omega arith)
    go a b c (inr p) (inr q) = (omega arith, omega arith, omega arith, omega arith)

-- the one counter that was missing between two runs
pub add_closing : (rs : List Run) (i n : ℕ) (s r y j x : Run) → s.last ≡ s.first → AreApart rs → n ≡ i + 1 → n < length rs → r ≡ get_or rs i r → y ≡ get_or rs n y → IsReached (get_or rs i s) s → IsReached s r → r.last < s.first → j ≡ joined r s → IsReached j y → x ≡ joined j y → Added rs s (set (remove rs n) i x)
add_closing rs i n s r y j x one apart step lt read next to from higher j_is reached x_is =
    let at : n ≡ suc i = omega arith in
    let is : r ≡ get_or rs i s = get_or_read rs i r (omega arith) read s in
    let next_is : y ≡ get_or rs (suc i) s = get_or_read rs n y lt next s ∙ ap (λ k. get_or rs k s) at in
    let first = rise_drop 0 0 rs i s apart (omega arith) in
    let rest = rise_drop 0 0 rs (suc i) s apart (omega arith) in
    let end : List Run = drop (suc (suc i)) rs in
    let valid : r.first ≤ r.last = subst (λ z. z.first ≤ z.last) (sym is) first.0 in
    let y_valid : y.first ≤ y.last = subst (λ z. z.first ≤ z.last) (sym next_is) rest.0 in
    let two : drop (suc i) rs ≡ y ∷ end = from_place rs (suc i) s (omega arith) ∙ ap (λ z. z ∷ end) (sym next_is) in
    let after : RiseFrom r.node (r.last + 2) (y ∷ end) =
    subst (λ z. RiseFrom z.node (z.last + 2) (y ∷ end)) (sym is) (subst (RiseFrom (get_or rs i s).node ((get_or rs i s).last + 2)) two first.1) in
    let same : (s.node ≡ r.node) × (r.first ≤ s.first + 1) × (s.first ≤ r.last + 1) = between r s one (subst (λ z. IsReached z s) (sym is) to) from in
    let meets : (j.node ≡ y.node) × (j.first ≤ y.first) × (y.first ≤ j.last + 1) × (r.last + 2 ≤ y.first) = reached_next r s y j one valid higher j_is after.0 reached in
    let j_node : j.node ≡ r.node = ap (λ z. z.node) j_is in
    let j_first : j.first ≡ r.first = ap (λ z. z.first) j_is in
    let j_last : j.last ≡ max r.last s.last = ap (λ z. z.last) j_is in
    let x_node : x.node ≡ j.node = ap (λ z. z.node) x_is in
    let x_first : x.first ≡ j.first = ap (λ z. z.first) x_is in
    let x_last : x.last ≡ max j.last y.last = ap (λ z. z.last) x_is in
    let shown : set (remove rs n) i x ≡ take i rs ++ x ∷ end = ap (λ k. set (remove rs k) i x) at ∙ closed_is rs i x (omega arith) in
    let from_two : drop i rs ≡ r ∷ y ∷ end = from_place rs i s (omega arith) ∙ ap (λ z. z ∷ drop (suc i) rs) (sym is) ∙ ap (λ l. r ∷ l) two in
    subst (Added rs s) (sym shown) (
      rise_longer 0 0 rs i s x end apart (omega arith) (x_node ∙ j_node ∙ ap (λ z. z.node) is) (x_first ∙ j_first ∙ ap (λ z. z.first) is) (omega arith)
          (rise_earlier x.node (x.last + 2) y.node (y.last + 2) end (inr (x_node ∙ meets.0, omega arith)) after.2),
      λ q. members_edit rs i x end (in_run s q) q (
          ap (λ b. b || in_runs end q) (
          ap (λ z. in_run z q) x_is
          ∙ in_joined j y q meets.0 meets.1 meets.2 (omega arith) y_valid
          ∙ ap (λ b. b || in_run y q) (ap (λ z. in_run z q) j_is ∙ in_joined r s q (sym same.0) (omega arith) (omega arith) valid (omega arith))
          )
          ∙ or_closed (in_run r q) (in_run s q) (in_run y q) _
          ∙ ap (λ l. in_run s q || in_runs l q) (sym from_two)
          ),
    )

in_wider : (s r : Run) (q : Dot) → s.last ≡ s.first → s.node ≡ r.node → r.first ≤ s.first → s.first ≤ r.last → in_run s q ≡ true → in_run r q ≡ true
in_wider s r q one same low high e = grind (arith, nat_tests)

-- a dot that is there
pub add_present : (rs : List Run) (i : ℕ) (s r : Run) → s.last ≡ s.first → AreApart rs → i < length rs → r ≡ get_or rs i r → IsReached (get_or rs i s) s → IsReached s r → r.first ≤ s.first → s.first ≤ r.last → Added rs s rs
add_present rs i s r one apart lt read to from low high = (
  apart,
  λ q. present q (in_run s q) refl,
)
  where
    is : r ≡ get_or rs i s
    is = get_or_read rs i r lt read s

    same : s.node ≡ r.node
    same = (between r s one (subst (λ z. IsReached z s) (sym is) to) from).0

    in_it : (q : Dot) → in_run s q ≡ true → in_run r q ≡ true
    in_it q e = in_wider s r q one same low high e

    present : (q : Dot) (b : Bool) → in_run s q ≡ b → in_runs rs q ≡ (b || in_runs rs q)
    present q true e = list_any_at (λ x. in_run x q) rs i s lt (ap (λ x. in_run x q) (sym is) ∙ in_it q e)
    present q false e = refl

-- a dot of the run that is in none of the runs
abbrev pub IsOutside : List Run → Run → Type 0
IsOutside rs r = (d : Dot) × (in_run r d ≡ true) × (in_runs rs d ≡ false)

-- a run that doesn't cover another lacks one of its dots
past_end : (x r : Run) (d : Dot) → r.node ≡ d.node → r.first ≡ d.counter → r.first ≤ r.last → in_run x d ≡ true → covers_run x r ≡ false → (x.node ≡ r.node) × (x.last < r.last) × (r.first ≤ x.last)
past_end x r d n c valid here fails = (grind (arith, nat_tests), grind (arith, nat_tests), grind (arith, nat_tests))

past_last : (x : Run) (node : ℕ) → in_run x (record { node = node; counter = x.last + 1 }) ≡ false
past_last x node = grind (arith, nat_tests)

in_part : (r x : Run) → x.last < r.last → r.first ≤ x.last → in_run r (record { node = r.node; counter = x.last + 1 }) ≡ true
in_part r x p q = grind (arith, nat_tests)

pub itself : (r : Run) (d : Dot) → r.node ≡ d.node → r.first ≡ d.counter → r.first ≤ r.last → in_run r d ≡ true
itself r d n c valid = grind (arith, nat_tests)

pub uncovered : (rs : List Run) (i : ℕ) (s x r : Run) (d : Dot) → AreApart rs → s ≡ single d → ((k : ℕ) → k < i → IsBelow (get_or rs k s) s) → i < length rs → IsReached (get_or rs i s) s → x ≡ get_or rs i x → r.node ≡ d.node → r.first ≡ d.counter → r.first ≤ r.last → covers_run x r ≡ false → IsOutside rs r
uncovered rs i s x r d apart one below lt reached read n c valid fails = case (in_run x d) refl
  where
    is : x ≡ get_or rs i s
    is = get_or_read rs i x lt read s

    at : Dot
    at = record { node = r.node; counter = x.last + 1 }

    s_node : s.node ≡ d.node
    s_node = ap (λ z. z.node) one

    s_first : s.first ≡ d.counter
    s_first = ap (λ z. z.first) one

    next : (x.node ≡ r.node) × (x.last < r.last) × (r.first ≤ x.last) → IsOutside rs r
    next p =
        let p0 : (take i rs ++ drop i rs) ≡ rs = take-append-drop i rs in
        let lows : in_runs (take i rs) at ≡ false = none_below rs i s at below (omega arith) (s_node ∙ sym n) (omega (arith, p.2, s_first, c)) in
        let rest = rise_drop 0 0 rs i s apart lt in
        let tail : RiseFrom x.node (x.last + 2) (drop (suc i) rs) = subst (λ z. RiseFrom z.node (z.last + 2) (drop (suc i) rs)) (sym is) rest.1 in
        let highs : in_runs (drop (suc i) rs) at ≡ false = none_before x.node (x.last + 2) _ at tail (inr (sym p.0, omega arith)) in
        let here : in_run x at ≡ false = past_last x r.node in
        let split : drop i rs ≡ x ∷ drop (suc i) rs = from_place rs i s lt ∙ ap (λ z. z ∷ drop (suc i) rs) (sym is) in
        (at, in_part r x p.1 p.2, ap (λ l. in_runs l at) (sym p0) ∙ list_any-append (λ z. in_run z at) (take i rs) (drop i rs) ∙ ap (λ b. b || in_runs (drop i rs) at) lows ∙ ap (λ l. in_runs l at) split ∙ ap (λ b. b || in_runs (drop (suc i) rs) at) here ∙ highs)

    case : (b : Bool) → in_run x d ≡ b → IsOutside rs r
    case false e = (d, itself r d n c valid, held_at rs i s d apart s_node s_first below lt reached ∙ ap (λ z. in_run z d) (sym is) ∙ e)
    case true e = next (past_end x r d n c valid e fails)

pub held_at_run : (rs : List Run) (i : ℕ) (x r : Run) (d : Dot) → AreApart rs → x ≡ single d → ((k : ℕ) → k < i → IsBelow (get_or rs k x) x) → i < length rs → IsReached (get_or rs i x) x → r ≡ get_or rs i r → in_runs rs d ≡ in_run r d
held_at_run rs i x r d apart is below lt reached read =
    held_at rs i x d apart (ap (λ z. z.node) is) (ap (λ z. z.first) is) below lt reached ∙ ap (λ z. in_run z d) (sym (get_or_read rs i r lt read x))

pub held_nowhere_run : (rs : List Run) (i : ℕ) (x : Run) (d : Dot) → x ≡ single d → ((k : ℕ) → k < i → IsBelow (get_or rs k x) x) → length rs ≤ i → in_runs rs d ≡ false
held_nowhere_run rs i x d is below all =
    let n : x.node ≡ d.node = ap (λ z. z.node) is in
    let c : x.first ≡ d.counter = ap (λ z. z.first) is in
    ap (λ l. in_runs l d) (sym (take_all (length rs) rs (omega arith))) ∙ none_below rs (length rs) x d (λ k lt. below k (omega arith)) (omega arith) n (omega arith)

pub covers_each : (x r : Run) (d : Dot) → covers_run x r ≡ true → in_run r d ≡ true → in_run x d ≡ true
covers_each x r d all here = grind (arith, nat_tests)

pub valid_at : (rs : List Run) (i : ℕ) (r : Run) → AreApart rs → i < length rs → r ≡ get_or rs i r → r.first ≤ r.last
valid_at rs i r apart lt read = subst (λ z. z.first ≤ z.last) (sym read) (rise_drop 0 0 rs i r apart lt).0
