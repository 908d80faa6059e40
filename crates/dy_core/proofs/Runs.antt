-- The runs of a context, one after another: which of their dots are issued.
use Rattle.std.proofs.Common.{◌≡◌, ℕ, suc, ◌+◌, ◌<◌, ◌≤◌, Bool, true, false, ◌&&◌, ◌||◌, eqb, leb, ◌⊎◌, List, [], ◌∷◌, length, get_or, take, drop, refl, sym, ap, ◌∙◌, subst, inl, inr, ⊎_elim, arith}
use Rattle.std.specs.FinSet as set
use Rattle.std.proofs.lemmas.Bool.{or_cases, or_left, or_right, and_parts, and_from, true≢false, eqb-true, eq-eqb, leb-true, le-leb}
use Rattle.std.proofs.lemmas.List.{drop_more, take_more, take-append-drop}
use Rattle.dy_dots.specs.Dots.{DotSet, AreDots, IsDotBefore}
use Rattle.dy_dots.specs.Runs.{AreRunsOf, RiseFrom, in_run, in_runs}
use Rattle.dy_dots.specs.declared.dots.Dot.{Dot}
use Rattle.dy_dots.specs.declared.runs.Run.{Run}
use Rattle.dy_dots.proofs.Lists.{none_before, rise_drop}
use Rattle.dy_siblings.specs.declared.versions.Version.{Version}
use Rattle.dy_core.specs.Worlds.{is_issued}
use Rattle.dy_core.specs.inside.Meanings.{AreIssuedBelow, IsFirstUnissued, AreIssuedIn}
use Rattle.dy_core.specs.Listings.{IsLeastUnknown}
use Rattle.std.proofs.lemmas.List.Folds.{list_any-append}

-- the parts of being in a run
run_parts : (r : Run) (d : Dot) → in_run r d ≡ true → (d.node ≡ r.node) × (r.first ≤ d.counter) × (d.counter ≤ r.last)
run_parts r d e =
    let outer = and_parts (eqb r.node d.node) (leb r.first d.counter && leb d.counter r.last) e in
    let inner = and_parts (leb r.first d.counter) (leb d.counter r.last) outer.1 in
    (sym (eqb-true r.node d.node outer.0), leb-true r.first d.counter inner.0, leb-true d.counter r.last inner.1)

in_run_from : (r : Run) (d : Dot) → d.node ≡ r.node → r.first ≤ d.counter → d.counter ≤ r.last → in_run r d ≡ true
in_run_from r d node low high =
    and_from (eqb r.node d.node) (leb r.first d.counter && leb d.counter r.last) (eq-eqb r.node d.node (sym node))
    (and_from (leb r.first d.counter) (leb d.counter r.last) (le-leb r.first d.counter low) (le-leb d.counter r.last high))

-- a dot of the runs is in those before the place, in the run there, or in those after it
split_at : (rs : List Run) (i : ℕ) (r : Run) → i < length rs → r ≡ get_or rs i r → (e : Dot) →
    in_runs rs e ≡ (in_runs (take i rs) e || (in_run r e || in_runs (drop (i + 1) rs) e))
split_at rs i r lt is e =
    ap (λ xs. in_runs xs e) (sym (take-append-drop i rs))
    ∙ list_any-append (λ x. in_run x e) (take i rs) (drop i rs)
    ∙ ap (λ xs. in_runs (take i rs) e || in_runs xs e) (drop_more rs i r lt ∙ ap (λ x. x ∷ drop (i + 1) rs) (sym is))

more_at : (rs : List Run) (i : ℕ) (r : Run) → i < length rs → r ≡ get_or rs i r → (e : Dot) → in_runs (take (i + 1) rs) e ≡ (in_runs (take i rs) e || in_run r e)
more_at rs i r lt is e =
    ap (λ xs. in_runs xs e) (take_more rs i r lt)
    ∙ list_any-append (λ x. in_run x e) (take i rs) (get_or rs i r ∷ [])
    ∙ ap (λ x. in_runs (take i rs) e || (in_run x e || false)) (sym is)
    ∙ ap (λ b. in_runs (take i rs) e || b) (or_none (in_run r e))
  where
    or_none : (a : Bool) → (a || false) ≡ a
    or_none true = refl
    or_none false = refl

module _ (rs : List Run) (s : DotSet) (are : AreRunsOf rs s) (i : ℕ) (r : Run) (lt : i < length rs) (is : r ≡ get_or rs i r) where
  in_set : (e : Dot) → in_run r e ≡ true → set.contains s e ≡ true
  in_set e inside =
      are.members e
      ∙ split_at rs i r lt is e
      ∙ or_right (in_runs (take i rs) e) (in_run r e || in_runs (drop (i + 1) rs) e) (or_left (in_run r e) (in_runs (drop (i + 1) rs) e) inside)

  rise_here : (r.first ≤ r.last) × RiseFrom r.node (r.last + 2) (drop (suc i) rs)
  rise_here =
      let rise = rise_drop 0 0 rs i r are.apart lt in
      subst (λ x. (x.first ≤ x.last) × RiseFrom x.node (x.last + 2) (drop (suc i) rs)) (sym is) rise

  -- its counters are those of dots
  pub run_low : AreDots s → 1 ≤ r.first
  run_low dots =
      let first : Dot = record { node = r.node; counter = r.first } in
      (dots first (in_set first (in_run_from r first refl (omega arith) rise_here.0))).1

  pub run_high : AreDots s → r.last ≤ 1000000
  run_high dots =
      let last : Dot = record { node = r.node; counter = r.last } in
      (dots last (in_set last (in_run_from r last refl rise_here.0 (omega arith)))).2

  module _ (vs : List Version) (key : List ℕ) (before : AreIssuedIn vs key (take i rs)) where
    run_issued : (n : ℕ) → AreIssuedBelow vs key r n → (e : Dot) → e.node ≡ r.node → r.first ≤ e.counter → e.counter < n → is_issued vs key e ≡ true
    run_issued n below e node low high =
        let same : record { node = r.node; counter = e.counter } ≡ e = λ j. record { node = sym node j; counter = e.counter } in
        subst (λ x. is_issued vs key x ≡ true) same (below e.counter low high)

    pub more_issued : AreIssuedBelow vs key r (r.last + 1) → AreIssuedIn vs key (take (i + 1) rs)
    more_issued all e inside =
        ⊎_elim (before e)
        (λ here. let p = run_parts r e here in run_issued (r.last + 1) all e p.0 p.1 (omega (arith, p.2)))
        (or_cases (in_runs (take i rs) e) (in_run r e) (sym (more_at rs i r lt is e) ∙ inside))

    pub least_is : (d : Dot) → IsFirstUnissued vs key r d → IsLeastUnknown vs key s d
    least_is d first =
        record {
          in_context = in_set d (in_run_from r d first.node_is first.from first.upto);
          not_issued = first.not_issued;
          least = λ e inside earlier.
              ⊎_elim (before e)
              (λ rest.
              ⊎_elim
              (λ here. let p = run_parts r e here in run_issued d.counter first.before e p.0 p.1 (below_here e earlier p.0))
              (λ later. absurd (true≢false (sym later ∙ none_before r.node (r.last + 2) (drop (i + 1) rs) e rise_next (before_next e earlier))))
              (or_cases (in_run r e) (in_runs (drop (i + 1) rs) e) rest))
              (or_cases (in_runs (take i rs) e) (in_run r e || in_runs (drop (i + 1) rs) e)
              (sym (split_at rs i r lt is e) ∙ sym (are.members e) ∙ inside));
        }
      where
        rise_next : RiseFrom r.node (r.last + 2) (drop (i + 1) rs)
        rise_next = let e : suc i ≡ i + 1 = omega arith in subst (λ k. RiseFrom r.node (r.last + 2) (drop k rs)) e rise_here.1

        below_here : (e : Dot) → IsDotBefore e d → e.node ≡ r.node → e.counter < d.counter
        below_here e (inl lower) node = let same = first.node_is in absurd (omega arith)
        below_here e (inr same) node = same.1

        before_next : (e : Dot) → IsDotBefore e d → (e.node < r.node) ⊎ ((e.node ≡ r.node) × (e.counter < r.last + 2))
        before_next e (inl lower) = let same = first.node_is in inl (omega arith)
        before_next e (inr same) = let high = first.upto in inr (same.0 ∙ first.node_is, omega (arith, same.1))

pub none_left : (rs : List Run) (s : DotSet) → AreRunsOf rs s → (vs : List Version) (key : List ℕ) → AreIssuedIn vs key rs →
    (d : Dot) → set.contains s d ≡ true → is_issued vs key d ≡ true
none_left rs s are vs key all d inside = all d (sym (are.members d) ∙ inside)
