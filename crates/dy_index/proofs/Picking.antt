-- The versions of a key that runs name, in the order of their dots.
use Rattle.std.proofs.Common.{◌≡◌, ℕ, zero, suc, ◌+◌, ◌-◌, ◌<◌, ◌≤◌, true, cond, ◌&&◌, eqb, leb, ◌⊎◌, List, [], ◌∷◌, ◌++◌, length, get_or, take, None, refl, sym, ap, ◌∙◌, subst, inl, inr, ⊎_elim, arith}
use Rattle.std.specs.List.{Contains, filter}
use Rattle.std.proofs.lemmas.Bool.{or_cases, or_left, or_right, and_parts, and_from, cases_Bool, cond-true, cond-false, true≢false, eqb-true, eq-eqb, leb-true, le-leb}
use Rattle.std.proofs.lemmas.List.{take_more}
use Rattle.std.proofs.lemmas.List.Elements.{Contains-append_left, Contains-append_right, Contains-append_cases, filter_more}
use Rattle.dy_dots.specs.Dots.{DotSet, IsDotBefore}
use Rattle.dy_dots.specs.Runs.{AreRunsOf, RiseFrom, in_run, in_runs}
use Rattle.dy_dots.specs.declared.dots.Dot.{Dot}
use Rattle.dy_dots.specs.declared.runs.Run.{Run}
use Rattle.dy_siblings.specs.Siblings.{Rise, RiseAfter}
use Rattle.dy_siblings.specs.declared.versions.Version.{Version}
use Rattle.dy_siblings.proofs.Members.{not_in_nil, in_head, in_tail, filter_in, filter_from}
use Rattle.dy_siblings.proofs.Rising.{filter_rises}
use Rattle.dy_index.specs.Indexes.{made_in}
use Rattle.dy_index.specs.Lists.{AreCounted}
use Rattle.dy_index.specs.Readings.{AreOfDots}
use Rattle.dy_index.proofs.Making.{counted_at}

-- the parts of being in a run
pub run_parts : (r : Run) (d : Dot) → in_run r d ≡ true → (d.node ≡ r.node) × (r.first ≤ d.counter) × (d.counter ≤ r.last)
run_parts r d e =
    let outer = and_parts (eqb r.node d.node) (leb r.first d.counter && leb d.counter r.last) e in
    let inner = and_parts (leb r.first d.counter) (leb d.counter r.last) outer.1 in
    (sym (eqb-true r.node d.node outer.0), leb-true r.first d.counter inner.0, leb-true d.counter r.last inner.1)

pub run_from : (r : Run) (d : Dot) → d.node ≡ r.node → r.first ≤ d.counter → d.counter ≤ r.last → in_run r d ≡ true
run_from r d node low high =
    and_from (eqb r.node d.node) (leb r.first d.counter && leb d.counter r.last) (eq-eqb r.node d.node (sym node))
    (and_from (leb r.first d.counter) (leb d.counter r.last) (le-leb r.first d.counter low) (le-leb d.counter r.last high))

-- the versions that a run names
abbrev pub named_by : Run → List Version → List Version
named_by r vs = filter (λ v. in_run r v.dot) vs

nothing_more : (xs : List Version) → xs ++ [] ≡ xs
nothing_more [] = refl
nothing_more (x ∷ xs) = ap (λ us. x ∷ us) (nothing_more xs)

-- ---- one run

-- versions whose counters are below the run's are not named by it
pub none_below : (r : Run) (n : ℕ) (vs : List Version) (k : ℕ) → AreCounted r.node n vs → n + k < r.first → named_by r (take k vs) ≡ []
none_below r n vs zero counted low = refl
none_below r n [] (suc k) counted low = refl
none_below r n (v ∷ vs) (suc k) counted low =
    cond-false (in_run r v.dot) (v ∷ named_by r (take k vs)) (named_by r (take k vs))
    (⊎_elim
    (λ yes. let parts = run_parts r v.dot yes in let is = ap (λ (d : Dot). d.counter) counted.0 in absurd (omega (arith, low, parts.1, is)))
    (λ no. no) (cases_Bool (in_run r v.dot)))
    ∙ none_below r (n + 1) vs k counted.1 (omega (arith, low))

-- nor those whose counters are above
none_above : (r : Run) (n : ℕ) (vs : List Version) → AreCounted r.node n vs → (n < r.last → ⊥) → named_by r vs ≡ []
none_above r n [] counted high = refl
none_above r n (v ∷ vs) counted high =
    cond-false (in_run r v.dot) (v ∷ named_by r vs) (named_by r vs)
    (⊎_elim
    (λ yes. let parts = run_parts r v.dot yes in let is = ap (λ (d : Dot). d.counter) counted.0 in absurd (high (omega (arith, parts.2, is))))
    (λ no. no) (cases_Bool (in_run r v.dot)))
    ∙ none_above r (n + 1) vs counted.1 (λ lt. high (omega (arith, lt)))

-- so whoever has come to the run's last, or to the last version, has all
pub all_named : (r : Run) (n : ℕ) (vs : List Version) (k : ℕ) → AreCounted r.node n vs → (k < length vs → n + k < r.last → ⊥) → named_by r (take k vs) ≡ named_by r vs
all_named r n [] zero counted far = refl
all_named r n [] (suc k) counted far = refl
all_named r n (v ∷ vs) zero counted far =
    sym (none_above r n (v ∷ vs) counted (λ lt. far (omega arith) (omega (arith, lt))))
all_named r n (v ∷ vs) (suc k) counted far =
    ap (λ (xs : List Version). cond (in_run r v.dot) (v ∷ xs) xs)
    (all_named r (n + 1) vs k counted.1 (λ some more. far (omega (arith, some)) (omega (arith, more))))

-- the next version is named, where its counter is one of the run's
pub one_named : (r : Run) (vs : List Version) (i : ℕ) (v : Version) → AreCounted r.node 0 vs → i < length vs → v ≡ get_or vs i v → r.first ≤ i + 1 → i < r.last →
    named_by r (take (i + 1) vs) ≡ named_by r (take i vs) ++ v ∷ []
one_named r vs i v counted lt is low high =
    let dot_is = counted_at r.node 0 vs i v counted lt (sym is) in
    let named = run_from r v.dot (ap (λ (d : Dot). d.node) dot_is)
    (let c = ap (λ (d : Dot). d.counter) dot_is in omega (arith, low, c))
    (let c = ap (λ (d : Dot). d.counter) dot_is in omega (arith, high, c)) in
    filter_more (λ (u : Version). in_run r u.dot) vs i v lt
    ∙ ap (λ (xs : List Version). named_by r (take i vs) ++ xs)
    (ap (λ (u : Version). cond (in_run r u.dot) (u ∷ []) []) (sym is)
    ∙ cond-true (in_run r v.dot) (v ∷ []) [] named)

-- ---- the runs of a set

-- what counts on rises
counted_after : (node n : ℕ) (vs : List Version) → AreCounted node n vs → RiseAfter (record { node = node; counter = n }) vs
counted_after node n [] counted = tt
counted_after node n (v ∷ vs) counted =
    let here : IsDotBefore (record { node = node; counter = n }) (record { node = node; counter = n + 1 }) = inr (refl, omega arith) in (
      subst (IsDotBefore (record { node = node; counter = n })) (sym counted.0) here,
      subst (λ d. RiseAfter d vs) (sym counted.0) (counted_after node (n + 1) vs counted.1),
    )

counted_rises : (node n : ℕ) (vs : List Version) → AreCounted node n vs → Rise vs
counted_rises node n [] counted = tt
counted_rises node n (v ∷ vs) counted = subst (λ d. RiseAfter d vs) (sym counted.0) (counted_after node (n + 1) vs counted.1)

-- two lists that rise, where all of the one come before all of the other
after_join : (d : Dot) (xs ys : List Version) → RiseAfter d xs → Rise ys → ((y : Version) → Contains ys y → IsDotBefore d y.dot) →
    ((x y : Version) → Contains xs x → Contains ys y → IsDotBefore x.dot y.dot) → RiseAfter d (xs ++ ys)
after_join d [] [] rise_xs rise_ys later apart = tt
after_join d [] (y ∷ ys) rise_xs rise_ys later apart = (later y (in_head y ys), rise_ys)
after_join d (x ∷ xs) ys rise_xs rise_ys later apart = (
  rise_xs.0,
  after_join x.dot xs ys rise_xs.1 rise_ys (λ y h. apart x y (in_head x xs) h) (λ z y hz hy. apart z y (in_tail x z xs hz) hy),
)

rise_join : (xs ys : List Version) → Rise xs → Rise ys → ((x y : Version) → Contains xs x → Contains ys y → IsDotBefore x.dot y.dot) → Rise (xs ++ ys)
rise_join [] ys rise_xs rise_ys apart = rise_ys
rise_join (x ∷ xs) ys rise_xs rise_ys apart =
    after_join x.dot xs ys rise_xs rise_ys (λ y h. apart x y (in_head x xs) h) (λ z y hz hy. apart z y (in_tail x z xs hz) hy)

module _ (made : ℕ → List Version) where
  -- the versions that the runs name, run after run
  abbrev pub picked : List Run → List Version
  picked [] = []
  picked (r ∷ rs) = named_by r (made r.node) ++ picked rs

  picked-append : (rs ss : List Run) → picked (rs ++ ss) ≡ picked rs ++ picked ss
  picked-append [] ss = refl
  picked-append (r ∷ rs) ss =
      ap (λ xs. named_by r (made r.node) ++ xs) (picked-append rs ss) ∙ sym (join (named_by r (made r.node)) (picked rs) (picked ss))
    where
      join : (xs ys zs : List Version) → (xs ++ ys) ++ zs ≡ xs ++ (ys ++ zs)
      join [] ys zs = refl
      join (x ∷ xs) ys zs = ap (λ us. x ∷ us) (join xs ys zs)

  pub picked_more : (rs : List Run) (i : ℕ) (r : Run) → i < length rs → r ≡ get_or rs i r → picked (take (i + 1) rs) ≡ picked (take i rs) ++ named_by r (made r.node)
  picked_more rs i r lt is =
      ap picked (take_more rs i r lt ∙ ap (λ (x : Run). take i rs ++ x ∷ []) (sym is))
      ∙ picked-append (take i rs) (r ∷ [])
      ∙ ap (λ xs. picked (take i rs) ++ xs) (nothing_more (named_by r (made r.node)))

  picked_from : (rs : List Run) (v : Version) → Contains (picked rs) v → Contains (made v.dot.node) v × (in_runs rs v.dot ≡ true)
  picked_from [] v h = absurd (not_in_nil v h)
  picked_from (r ∷ rs) v h =
      ⊎_elim
      (λ l.
      let f = filter_from (λ (u : Version). in_run r u.dot) (made r.node) v l in (
        subst (λ n. Contains (made n) v) (sym (run_parts r v.dot f.1).0) f.0,
        or_left (in_run r v.dot) (in_runs rs v.dot) f.1,
      ))
      (λ later. let f = picked_from rs v later in (f.0, or_right (in_run r v.dot) (in_runs rs v.dot) f.1))
      (Contains-append_cases (named_by r (made r.node)) (picked rs) v h)

  picked_in : (rs : List Run) (v : Version) → Contains (made v.dot.node) v → in_runs rs v.dot ≡ true → Contains (picked rs) v
  picked_in [] v h inside = absurd (true≢false (sym inside))
  picked_in (r ∷ rs) v h inside =
      ⊎_elim
      (λ here. Contains-append_left (named_by r (made r.node)) (picked rs) v
      (filter_in (λ (u : Version). in_run r u.dot) (made r.node) v (subst (λ n. Contains (made n) v) (run_parts r v.dot here).0 h) here))
      (λ later. Contains-append_right (named_by r (made r.node)) (picked rs) v (picked_in rs v h later))
      (or_cases (in_run r v.dot) (in_runs rs v.dot) inside)

  picked_later : (node counter : ℕ) (rs : List Run) → RiseFrom node counter rs → (v : Version) → Contains (picked rs) v →
      (node < v.dot.node) ⊎ ((node ≡ v.dot.node) × (counter ≤ v.dot.counter))
  picked_later node counter [] rise v h = absurd (not_in_nil v h)
  picked_later node counter (r ∷ rs) rise v h =
      ⊎_elim
      (λ l.
      let f = filter_from (λ (u : Version). in_run r u.dot) (made r.node) v l in
      let p = run_parts r v.dot f.1 in
      ⊎_elim
      (λ below. inl (let n = p.0 in omega (arith, below, n)))
      (λ same. inr (same.0 ∙ sym p.0, omega (arith, same.1, p.1)))
      rise.0)
      (λ later.
      ⊎_elim
      (λ above. inl (⊎_elim (λ below. omega (arith, below, above)) (λ same. let n = same.0 in omega (arith, n, above)) rise.0))
      (λ same. let n = same.0 in
      ⊎_elim
      (λ below. inl (omega (arith, below, n)))
      (λ at. inr (at.0 ∙ n, omega (arith, at.1, rise.1, same.1)))
      rise.0)
      (picked_later r.node (r.last + 2) rs rise.2 v later))
      (Contains-append_cases (named_by r (made r.node)) (picked rs) v h)

  module _ (counted : (node : ℕ) → AreCounted node 0 (made node)) where
    picked_rises : (node counter : ℕ) (rs : List Run) → RiseFrom node counter rs → Rise (picked rs)
    picked_rises node counter [] rise = tt
    picked_rises node counter (r ∷ rs) rise =
        rise_join (named_by r (made r.node)) (picked rs)
        (filter_rises (λ (u : Version). in_run r u.dot) (made r.node) (counted_rises r.node 0 (made r.node) (counted r.node)))
        (picked_rises r.node (r.last + 2) rs rise.2)
        (λ x y hx hy.
        let p = run_parts r x.dot (filter_from (λ (u : Version). in_run r u.dot) (made r.node) x hx).1 in
        ⊎_elim
        (λ above. inl (let n = p.0 in omega (arith, n, above)))
        (λ same. inr (p.0 ∙ same.0, omega (arith, p.2, same.1)))
        (picked_later r.node (r.last + 2) rs rise.2 y hy))

    -- the versions that a set's runs name are those of its dots
    pub picked_are : (rs : List Run) (dots : DotSet) → AreRunsOf rs dots → AreOfDots made dots (picked rs)
    picked_are rs dots are = record {
      rise = picked_rises 0 0 rs are.apart;
      same = λ v. (
        (λ h. let f = picked_from rs v h in (f.0, are.members v.dot ∙ f.1)),
        (λ h. picked_in rs v h.0 (sym (are.members v.dot) ∙ h.1)),
      );
    }

-- without a list there is nothing to pick
pub none_of_dots : (dots : DotSet) → AreOfDots (made_in None) dots []
none_of_dots dots = record {
  rise = tt;
  same = λ v. ((λ h. absurd (not_in_nil v h)), (λ h. absurd (not_in_nil v h.0)));
}

-- nothing has been read before a run's first
pub run_start : (r : Run) (vs old : List Version) → AreCounted r.node 0 vs → 1 ≤ r.first → old ≡ old ++ named_by r (take (r.first - 1) vs)
run_start r vs old counted low =
    sym (ap (λ xs. old ++ xs) (none_below r 0 vs (r.first - 1) counted (omega (arith, low))) ∙ nothing_more old)
