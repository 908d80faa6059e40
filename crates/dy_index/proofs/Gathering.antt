-- Histories gathered one after another, and what is there already skipped.
use Rattle.std.proofs.Common.{◌≡◌, ℕ, ◌+◌, ◌<◌, ◌≤◌, Bool, true, false, ◌&&◌, ◌||◌, eqb, leb, List}
use Rattle.std.proofs.Common.{[], ◌∷◌, length, get_or, take, max, ◌⊎◌, refl, sym, ap, ◌∙◌, subst}
use Rattle.std.proofs.Common.{inl, inr, ⊎_elim, arith}
use Rattle.std.specs.FinSet as set
use Rattle.std.specs.List.{Contains}
use Rattle.std.proofs.lemmas.Bool.{cases_Bool, cases_lt, or_cases, or_left, or_right, and_parts}
use Rattle.std.proofs.lemmas.Bool.{and_from, true≢false, eqb-true, eq-eqb, leb-true, le-leb}
use Rattle.dy_dots.specs.Dots.{DotSet, same_dot, dot_cmp}
use Rattle.dy_dots.specs.Runs.{AreRunsOf, in_run, in_runs}
use Rattle.dy_dots.specs.declared.dots.Dot.{Dot}
use Rattle.dy_dots.specs.declared.runs.Run.{Run}
use Rattle.dy_siblings.specs.Versions.{in_history}
use Rattle.dy_siblings.specs.declared.versions.Version.{Version}
use Rattle.std.specs.Cmp.{both_ways as both_ways_same}
use Rattle.std.proofs.lemmas.List.{take_more}
use Rattle.dy_core.specs.Worlds.{Layout, is_issued}
use Rattle.dy_core.specs.Logs.{world_after, IsLegal}
use Rattle.dy_core.specs.declared.steps.Step.{Step}
use Rattle.dy_core.proofs.Counters.{counters_used}
use Rattle.dy_core.specs.Steps.{past_of}
use Rattle.dy_core.specs.inside.Meanings.{AreIssuedBelow, IsFirstUnissued}
use Rattle.dy_siblings.proofs.Members.{any_from}
use Rattle.std.proofs.lemmas.List.Folds.{list_any-append}
use Rattle.dy_dots.proofs.Sets.{dot_total, dot_antisymmetric}
use Rattle.dy_dots.proofs.SameDots.{same_dot_is, same_dot_self, same_dot_back}
use Rattle.dy_dots.proofs.Sets.{in_union, in_insert}
use Rattle.dy_core.proofs.Ordered.{IsOrdered, past_is_known, same_version}
use Rattle.dy_core.proofs.Kept.{Named, past_gives, past_from}
use Rattle.dy_index.specs.inside.Pasts.{IsClosed, HasFrom, Reaches, GrowsBy, GrowsByRun}

-- a run that has the dot, of the runs of the set, has no gap below it
pub inside_run : (rs : List Run) (s : DotSet) → AreRunsOf rs s →
    (i : ℕ) (r : Run) → i < length rs → r ≡ get_or rs i r →
    (d : Dot) → r.node ≡ d.node → r.first ≤ d.counter → d.counter ≤ r.last →
    HasFrom s d.node r.first (d.counter + 1)
inside_run rs s are i r lt is d node low high c from upto =
    let e : Dot = record { node = d.node; counter = c } in
    are.members e
    ∙ any_from (λ x. in_run x e) rs r (i, lt, sym is)
    (and_from (eqb r.node d.node) (leb r.first c && leb c r.last) (eq-eqb r.node d.node node)
    (and_from (leb r.first c) (leb c r.last) (le-leb r.first c from)
    (le-leb c r.last (omega (arith, upto, high)))))

-- at least the dot itself is there
pub itself_from : (s : DotSet) (d : Dot) → set.contains s d ≡ true →
    HasFrom s d.node d.counter (d.counter + 1)
itself_from s d inside c from upto =
    let e : d.counter ≡ c = omega (arith, from, upto) in
    (λ i. set.contains s (record { node = d.node; counter = sym e i })) ∙ inside

-- nothing is to be added
pub grows_not : (vs : List Version) (key : List ℕ) (d : Dot) (s : DotSet) → IsClosed vs key s →
    GrowsBy vs key d s s
grows_not vs key d s closed = record { keeps = λ e h. h; closed = closed; sound = λ e h. inl h }

module _ (vs : List Version) (ordered : IsOrdered vs) (key : List ℕ) (old : DotSet)
    (closed : IsClosed vs key old)
    (v : Version) (made : Contains vs v) (key_is : v.key ≡ key) where
  grown : DotSet
  grown = set.insert (set.union old v.past) v.dot

  has : (e : Dot) → set.contains grown
      e ≡ (same_dot e v.dot || (set.contains old e || set.contains v.past e))
  unfolding grown
  has e =
      in_insert (set.union old v.past) v.dot e
      ∙ (λ i. same_dot_back v.dot e i || in_union old v.past e i)

  in_own : (e : Dot) → in_history v e ≡ true → set.contains grown e ≡ true
  in_own e h =
      has e
      ∙ ⊎_elim
      (λ own. or_left (same_dot e v.dot) (set.contains old e || set.contains v.past e)
      (same_dot_back e v.dot ∙ own))
      (λ past. or_right (same_dot e v.dot) (set.contains old e || set.contains v.past e)
      (or_right (set.contains old e) (set.contains v.past e) past))
      (or_cases (same_dot v.dot e) (set.contains v.past e) h)

  in_old : (e : Dot) → set.contains old e ≡ true → set.contains grown e ≡ true
  in_old e h = has e ∙ or_right (same_dot e v.dot) (set.contains old e || set.contains v.past e)
      (or_left (set.contains old e) (set.contains v.past e) h)

  from_parts : (e : Dot) → set.contains grown e ≡ true →
      (set.contains old e ≡ true) ⊎ (in_history v e ≡ true)
  from_parts e h =
      ⊎_elim
      (λ own. inr (or_left (same_dot v.dot e) (set.contains v.past e)
      (same_dot_back v.dot e ∙ own)))
      (λ rest. ⊎_elim (λ o. inl o)
      (λ p. inr (or_right (same_dot v.dot e) (set.contains v.past e) p))
      (or_cases (set.contains old e) (set.contains v.past e) rest))
      (or_cases (same_dot e v.dot) (set.contains old e || set.contains v.past e) (sym (has e) ∙ h))

  closed_again : IsClosed vs key grown
  closed_again u in_vs of inside e reach =
      ⊎_elim
      (λ o. in_old e (closed u in_vs of o e reach))
      (λ h.
      ⊎_elim
      (λ own.
      let same = same_version vs ordered u v in_vs made (of ∙ sym key_is)
      (sym (same_dot_is v.dot u.dot own)) in
      in_own e (ap (λ y. in_history y e) (sym same) ∙ reach))
      (λ past.
      let k = past_is_known vs ordered v made u.dot past in
      let same = same_version vs ordered k.version u k.in_list in_vs
      (k.key_is ∙ (key_is ∙ sym of)) k.dot_is in
      in_own e (or_right (same_dot v.dot e) (set.contains v.past e)
      (k.history_in e (ap (λ y. in_history y e) same ∙ reach))))
      (or_cases (same_dot v.dot u.dot) (set.contains v.past u.dot) h))
      (from_parts u.dot inside)

  -- the history of a version is added
  pub grows_history : (d : Dot) → v.dot ≡ d →
      (new : DotSet) → new ≡ set.insert (set.union old v.past) v.dot → GrowsBy vs key d old new
  unfolding grown
  grows_history d dot_is new is =
      subst (GrowsBy vs key d old) (sym is)
      (record {
        keeps = in_old;
        closed = closed_again;
        sound = λ e h. ⊎_elim (λ o. inl o)
            (λ r. inr (record {
              version = v;
              in_list = made;
              key_is = key_is;
              dot_is = dot_is;
              reaches = r;
            })) (from_parts e h);
      })

  pub has_own : (d : Dot) → v.dot ≡ d →
      (new : DotSet) → new ≡ set.insert (set.union old v.past) v.dot → set.contains new d ≡ true
  unfolding grown
  has_own d dot_is new is =
      subst (λ s. set.contains s d ≡ true) (sym is)
      (in_own d (or_left (same_dot v.dot d) (set.contains v.past d)
      (ap (λ x. same_dot x d) dot_is ∙ same_dot_self d)))

-- a run of which nothing was looked at
pub run_begins : (vs : List Version) (key : List ℕ) (r : Run) (s : DotSet) → IsClosed vs key s →
    GrowsByRun vs key r s s
run_begins vs key r s closed = record { keeps = λ e h. h; closed = closed; sound = λ e h. inl h }

-- a dot of the run more
pub run_goes : (vs : List Version) (key : List ℕ) (r : Run) (old s new : DotSet) (d : Dot) →
    GrowsByRun vs key r old s → GrowsBy vs key d s new →
    in_run r d ≡ true → GrowsByRun vs key r old new
run_goes vs key r old s new d g h inside =
    record {
      keeps = λ e o. h.keeps e (g.keeps e o);
      closed = h.closed;
      sound = λ e n. ⊎_elim (λ o. g.sound e o) (λ reach. inr (d, inside, reach)) (h.sound e n);
    }

-- what was there from a counter on is there still, and what was added below it
pub from_goes : (s new : DotSet) (node first next end : ℕ) →
    ((e : Dot) → set.contains s e ≡ true → set.contains new e ≡ true) →
    HasFrom s node next end → HasFrom new node first next → HasFrom new node first end
from_goes s new node first next end keeps above below c from upto =
    ⊎_elim (λ (lt : c < next). below c from lt)
    (λ (ge : next ≤ c). keeps (record { node = node; counter = c }) (above c ge upto))
    (cases_lt c next)

-- the past of a context, of which the first runs were gathered
pub record IsGathered (vs : List Version) (key : List ℕ) (context : DotSet) (rs : List Run)
    (s : DotSet) : Type 0 where
  pub closed : IsClosed vs key s
  pub sound : (e : Dot) → set.contains s e ≡ true → Named vs key context e
  pub inside : (d : Dot) → in_runs rs d ≡ true → set.contains s d ≡ true

-- the parts of being in a run
run_parts : (r : Run) (d : Dot) → in_run r d ≡ true →
    (d.node ≡ r.node) × (r.first ≤ d.counter) × (d.counter ≤ r.last)
run_parts r d e =
    let outer = and_parts (eqb r.node d.node) (leb r.first d.counter && leb d.counter r.last) e in
    let inner = and_parts (leb r.first d.counter) (leb d.counter r.last) outer.1 in (
      sym (eqb-true r.node d.node outer.0),
      leb-true r.first d.counter inner.0,
      leb-true d.counter
          r.last inner.1,
    )

pub in_run_from : (r : Run) (d : Dot) → d.node ≡ r.node → r.first ≤ d.counter → d.counter ≤ r.last →
    in_run r d ≡ true
in_run_from r d node low high =
    and_from (eqb r.node d.node) (leb r.first d.counter && leb d.counter r.last)
    (eq-eqb r.node d.node (sym node))
    (and_from (leb r.first d.counter) (leb d.counter r.last) (le-leb r.first d.counter low)
    (le-leb d.counter r.last high))

more_at : (rs : List Run) (i : ℕ) (r : Run) → i < length rs → r ≡ get_or rs i r →
    (e : Dot) → in_runs (take (i + 1) rs) e ≡ (in_runs (take i rs) e || in_run r e)
more_at rs i r lt is e =
    ap (λ xs. in_runs xs e) (take_more rs i r lt)
    ∙ (list_any-append (λ x. in_run x e) (take i rs) (get_or rs i r ∷ [])
    ∙ (ap (λ x. in_runs (take i rs) e || (in_run x e || false)) (sym is)
    ∙ ap (λ b. in_runs (take i rs) e || b) (or_none (in_run r e))))
  where
    or_none : (a : Bool) → (a || false) ≡ a
    or_none true = refl
    or_none false = refl

-- a dot of a run of the set is in the set
pub in_set : (rs : List Run) (s : DotSet) → AreRunsOf rs s →
    (i : ℕ) (r : Run) → i < length rs → r ≡ get_or rs i r →
    (d : Dot) → in_run r d ≡ true → set.contains s d ≡ true
in_set rs s are i r lt is d inside =
    are.members d ∙ any_from (λ x. in_run x d) rs r (i, lt, sym is) inside

-- each dot of the run is of a version
pub run_known : (vs : List Version) (key : List ℕ) (rs : List Run) (s : DotSet) → AreRunsOf rs s →
    (i : ℕ) (r : Run) → i < length rs → r ≡ get_or rs i r →
    ((d : Dot) → set.contains s d ≡ true → is_issued vs key d ≡ true) →
    AreIssuedBelow vs key r (r.last + 1)
run_known vs key rs s are i r lt is known c from upto =
    let d : Dot = record { node = r.node; counter = c } in
    known d (in_set rs s are i r lt is d (in_run_from r d refl from (omega (arith, upto))))

pub gathers_none : (vs : List Version) (key : List ℕ) (context : DotSet) →
    IsGathered vs key context [] set.empty
gathers_none vs key context =
    record {
      closed = λ v in_vs of h e reach. absurd
          (true≢false (sym h ∙ set.contains-empty dot_cmp v.dot));
      sound = λ e h. absurd (true≢false (sym h ∙ set.contains-empty dot_cmp e));
      inside = λ d h. absurd (true≢false (sym h));
    }

-- a run more is gathered
pub gathers_more : (vs : List Version) (key : List ℕ) (context : DotSet) (rs : List Run) →
    AreRunsOf rs context → (i : ℕ) (r : Run) → i < length rs → r ≡ get_or rs i r →
    (s new : DotSet) → IsGathered vs key context (take i rs) s → GrowsByRun vs key r s new →
    HasFrom new r.node r.first (r.last + 1) →
    IsGathered vs key context (take (i + 1) rs) new
gathers_more vs key context rs are i r lt is s new g h from =
    record {
      closed = h.closed;
      sound = λ e inside. ⊎_elim (λ old. g.sound e old) (λ reach. named e reach.0 reach.1 reach.2)
          (h.sound e inside);
      inside = λ d inside. ⊎_elim (λ before. h.keeps d (g.inside d before))
          (λ here. there d (run_parts r d here))
          (or_cases (in_runs (take i rs) d) (in_run r d) (sym (more_at rs i r lt is d) ∙ inside));
    }
  where
    named : (e d : Dot) → in_run r d ≡ true → Reaches vs key d e → Named vs key context e
    named e d of reach =
        record {
          version = reach.version;
          in_list = reach.in_list;
          key_is = reach.key_is;
          named = ap (set.contains context) reach.dot_is ∙ in_set rs context are i r lt is d of;
          reaches = reach.reaches;
        }

    there : (d : Dot) → (d.node ≡ r.node) × (r.first ≤ d.counter) × (d.counter ≤ r.last) →
        set.contains new d ≡ true
    there d p = (λ j. set.contains new (record { node = p.0 j; counter = d.counter }))
        ∙ from d.counter p.1 (omega (arith, p.2))

-- what was gathered of all the runs is the past of the context
pub gathers_all : (vs : List Version) (key : List ℕ) (context : DotSet) (rs : List Run) →
    AreRunsOf rs context →
    (s : DotSet) → IsGathered vs key context rs s → s ≡ past_of vs key context
gathers_all vs key context rs are s g =
    set.same_set dot_total dot_antisymmetric s (past_of vs key context) (λ d.
    both_ways_same (set.contains s d) (set.contains (past_of vs key context) d)
    (λ h. past_from vs key context d (g.sound d h))
    (λ h.
    let n = past_gives vs key context d h in
    g.closed n.version n.in_list n.key_is
    (g.inside n.version.dot (sym (are.members n.version.dot) ∙ n.named)) d n.reaches))

-- which dots of a run are issued, where the node's counters go to this one
module _ (layout : Layout) (steps : List Step) (legal : IsLegal layout steps) (key : List ℕ)
    (r : Run) (low : 1 ≤ r.first) where
  issued_upto : (c : ℕ) → 1 ≤ c → c ≤ (world_after steps).counters r.node key →
      is_issued (world_after steps).versions key (record { node = r.node; counter = c }) ≡ true
  issued_upto c from upto = (counters_used layout steps legal r.node key c).1 (from, upto)

  pub all_issued : r.last ≤ (world_after steps).counters r.node key →
      AreIssuedBelow (world_after steps).versions key r (r.last + 1)
  all_issued high c from upto = issued_upto c (omega (arith, low, from)) (omega (arith, high, upto))

  pub nothing_issued : r.last < r.first →
      AreIssuedBelow (world_after steps).versions key r (r.last + 1)
  nothing_issued none c from upto = absurd (omega (arith, none, from, upto))

  pub first_not_issued : (last : ℕ) → last ≡ (world_after steps).counters r.node key →
      (d : Dot) → d ≡ record { node = r.node; counter = max r.first (last + 1) } →
      max r.first (last + 1) ≤ r.last →
      IsFirstUnissued (world_after steps).versions key r d
  first_not_issued last last_is d is high =
      let c = max r.first (last + 1) in
      let counter_is : d.counter ≡ c = ap (λ x. x.counter) is in
      record {
        node_is = ap (λ x. x.node) is;
        from = subst (λ n. r.first ≤ n) (sym counter_is) (omega arith);
        upto = subst (λ n. n ≤ r.last) (sym counter_is) high;
        not_issued =
            ⊎_elim
            (λ yes.
            let used = (counters_used layout steps legal r.node key c).0
            (ap (is_issued (world_after steps).versions key) (sym is) ∙ yes) in
            absurd (past used.1))
            (λ no. no)
            (cases_Bool (is_issued (world_after steps).versions key d));
        before = λ n from upto. issued_upto n (omega (arith, low, from))
            (below n from (subst (λ m. n < m) counter_is upto));
      }
    where
      past : max r.first (last + 1) ≤ (world_after steps).counters r.node key → ⊥
      past h = let lt : last + 1 ≤ (world_after steps).counters r.node key = omega (arith, h) in
          omega (arith, lt, last_is)

      below : (n : ℕ) → r.first ≤ n → n < max r.first (last + 1) →
          n ≤ (world_after steps).counters r.node key
      below n from upto = subst (λ m. n ≤ m) last_is (omega (arith, from, upto))
