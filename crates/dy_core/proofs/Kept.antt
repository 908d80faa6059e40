-- What every world of a run has, and that each step keeps it.
use Rattle.std.proofs.Common.{◌≡◌, ℕ, ◌+◌, ◌<◌, ◌≤◌, Bool, true, false, cond, ◌&&◌, not, eqb, List, [], ◌∷◌, ◌++◌, Option, ◌⊎◌, refl, sym, ap, ◌∙◌, inl, inr, ⊎_elim, arith}
use Rattle.std.specs.List.{All, Contains}
use Rattle.std.specs.FinSet as set
use Rattle.std.proofs.lemmas.Bool.{or_cases, or_left, or_right, and_parts, and_from, true≢false, eqb-true, eq-eqb, cond-true, cond_both, cases_lt}
use Rattle.dy_dots.specs.Dots.{DotSet, same_dot, dot_cmp}
use Rattle.dy_siblings.specs.Versions.{in_history, history_of}
use Rattle.dy_siblings.specs.Siblings.{Siblings, same_key, has_dot, merge}
use Rattle.dy_preference.specs.Preferences.{may_hold}
use Rattle.dy_core.specs.Worlds.{Layout, World, empty_world, is_issued, row_at}
use Rattle.dy_core.specs.Steps.{past_of, version_made, same_place, IsAllowed, world_after_step, after_issue, after_hold, after_release}
use Rattle.dy_core.specs.Logs.{Known}
use Rattle.dy_dots.specs.declared.dots.Dot.{Dot}
use Rattle.dy_siblings.specs.declared.versions.Version.{Version}
use Rattle.dy_core.specs.declared.steps.Step.{Step}
use Rattle.dy_core.specs.declared.steps.Step.TheVariants.{Issue, Hold, Release, Fetch, Ack}
use Rattle.dy_siblings.proofs.Members.{not_in_nil, in_head, in_tail, in_cases, any_gives, any_from, filter_from}
use Rattle.dy_dots.proofs.SameDots.{same_dot_is}
use Rattle.dy_siblings.proofs.SameKeys.{same_key_is, same_key_self}
use Rattle.dy_dots.proofs.Sets.{in_union}
use Rattle.dy_siblings.proofs.Histories.{in_history_set}
use Rattle.dy_core.proofs.Ordered.{IsOrdered, past_is_known}
use Rattle.dy_core.proofs.Standing.{AreOf-held, place_is}

-- a version that a context names, with a dot of its history
pub record Named (vs : List Version) (key : List ℕ) (context : DotSet) (d : Dot) : Type 0 where
  pub version : Version
  pub in_list : Contains vs version
  pub key_is : version.key ≡ key
  pub named : set.contains context version.dot ≡ true
  pub reaches : in_history version d ≡ true

named_later : (x : Version) (vs : List Version) (key : List ℕ) (context : DotSet) (d : Dot) → Named vs key context d → Named (x ∷ vs) key context d
named_later x vs key context d n =
    record { version = n.version; in_list = in_tail x n.version vs n.in_list; key_is = n.key_is; named = n.named; reaches = n.reaches }

pub past_gives : (vs : List Version) (key : List ℕ) (context : DotSet) (d : Dot) → set.contains (past_of vs key context) d ≡ true → Named vs key context d
past_gives [] key context d e = absurd (true≢false (sym e ∙ set.contains-empty dot_cmp d))
past_gives (v ∷ vs) key context d e =
    go (same_key v.key key && set.contains context v.dot) refl e (past_gives vs key context d)
  where
    go : (b : Bool) → (same_key v.key key && set.contains context v.dot) ≡ b →
        set.contains (cond b (set.union (history_of v) (past_of vs key context)) (past_of vs key context)) d ≡ true →
        (set.contains (past_of vs key context) d ≡ true → Named vs key context d) → Named (v ∷ vs) key context d
    go false is e below = named_later v vs key context d (below e)
    go true is e below =
        ⊎_elim
        (λ here.
        let parts = and_parts (same_key v.key key) (set.contains context v.dot) is in
        record {
          version = v;
          in_list = in_head v vs;
          key_is = same_key_is v.key key parts.0;
          named = parts.1;
          reaches = sym (in_history_set v d) ∙ here;
        })
        (λ later. named_later v vs key context d (below later))
        (or_cases (set.contains (history_of v) d) (set.contains (past_of vs key context) d)
        (sym (in_union (history_of v) (past_of vs key context) d) ∙ e))

pub past_from : (vs : List Version) (key : List ℕ) (context : DotSet) (d : Dot) → Named vs key context d → set.contains (past_of vs key context) d ≡ true
past_from [] key context d n = absurd (not_in_nil n.version n.in_list)
past_from (v ∷ vs) key context d n =
    go (same_key v.key key && set.contains context v.dot) refl (in_cases v n.version vs n.in_list)
    (λ later. past_from vs key context d (record { version = n.version; in_list = later; key_is = n.key_is; named = n.named; reaches = n.reaches }))
  where
    passes : n.version ≡ v → (same_key v.key key && set.contains context v.dot) ≡ true
    passes same =
        and_from (same_key v.key key) (set.contains context v.dot)
        (ap (λ x. same_key x.key key) (sym same) ∙ ap (λ k. same_key k key) n.key_is ∙ same_key_self key)
        (ap (λ x. set.contains context x.dot) (sym same) ∙ n.named)

    go : (b : Bool) → (same_key v.key key && set.contains context v.dot) ≡ b → (n.version ≡ v) ⊎ Contains vs n.version →
        (Contains vs n.version → set.contains (past_of vs key context) d ≡ true) →
        set.contains (cond b (set.union (history_of v) (past_of vs key context)) (past_of vs key context)) d ≡ true
    go false is (inl same) below = absurd (true≢false (sym (passes same) ∙ is))
    go false is (inr later) below = below later
    go true is (inl same) below =
        in_union (history_of v) (past_of vs key context) d
        ∙ or_left (set.contains (history_of v) d) (set.contains (past_of vs key context) d)
        (in_history_set v d ∙ ap (λ x. in_history x d) (sym same) ∙ n.reaches)
    go true is (inr later) below =
        in_union (history_of v) (past_of vs key context) d
        ∙ or_right (set.contains (history_of v) d) (set.contains (past_of vs key context) d) (below later)

-- the past of what a context names is made of the versions before
pub past_named_known : (vs : List Version) → IsOrdered vs → (v : Version) (context : DotSet) → v.past ≡ past_of vs v.key context →
    (d : Dot) → set.contains v.past d ≡ true → Known vs v d
past_named_known vs ordered v context is d e =
    ⊎_elim
    (λ own.
    record {
      version = u;
      in_list = n.in_list;
      key_is = n.key_is;
      dot_is = same_dot_is u.dot d own;
      history_in = λ f in_u. into f in_u;
    })
    (λ below.
    let k = past_is_known vs ordered u n.in_list d below in
    record {
      version = k.version;
      in_list = k.in_list;
      key_is = k.key_is ∙ n.key_is;
      dot_is = k.dot_is;
      history_in = λ f in_k. into f (or_right (same_dot u.dot f) (set.contains u.past f) (k.history_in f in_k));
    })
    (or_cases (same_dot u.dot d) (set.contains u.past d) n.reaches)
  where
    n : Named vs v.key context d
    n = past_gives vs v.key context d (ap (λ s. set.contains s d) (sym is) ∙ e)

    u : Version
    u = n.version

    into : (f : Dot) → in_history u f ≡ true → set.contains v.past f ≡ true
    into f in_u =
        ap (λ s. set.contains s f) is
        ∙ past_from vs v.key context f (record { version = n.version; in_list = n.in_list; key_is = n.key_is; named = n.named; reaches = in_u })

-- what every world of a run has, apart from its acks
pub record IsSound (layout : Layout) (w : World) : Type 0 where
  pub ordered : IsOrdered w.versions
  pub counted : (v : Version) → Contains w.versions v → (1 ≤ v.dot.counter) × (v.dot.counter ≤ w.counters v.dot.node v.key)
  pub every_counter : (node : ℕ) (key : List ℕ) (c : ℕ) → 1 ≤ c → c ≤ w.counters node key → is_issued w.versions key (record { node = node; counter = c }) ≡ true
  pub held_sound : (holder home : ℕ) (key : List ℕ) (d : Dot) → w.holdings holder home key d ≡ true →
      (may_hold (layout.homes key) holder home ≡ true) × (is_issued w.versions key d ≡ true)

pub empty_sound : (layout : Layout) → IsSound layout empty_world
empty_sound layout =
    record {
      ordered = tt;
      counted = λ v h. absurd (not_in_nil v h);
      every_counter = λ node key c low high. absurd (omega arith);
      held_sound = λ holder home key d e. absurd (true≢false (sym e));
    }

module _ (layout : Layout) (w : World) (sound : IsSound layout w) where
  pub issue_sound : (node : ℕ) (key : List ℕ) (context : DotSet) (value : Option (List ℕ)) →
      IsSound layout (after_issue w (version_made w node key context value))
  issue_sound node key context value =
      record {
        ordered = (record { fresh = fresh; past_known = past_named_known w.versions sound.ordered made context refl }, sound.ordered);
        counted = counted;
        every_counter = every_counter;
        held_sound = λ p o k d e.
            let old = sound.held_sound p o k d e in
            (old.0, or_right (same_key made.key k && same_dot made.dot d) (is_issued w.versions k d) old.1);
      }
    where
      made : Version
      made = version_made w node key context value

      is_here : ℕ → List ℕ → Bool
      is_here n k = eqb n node && same_key k key

      world_after_step' : World
      world_after_step' = after_issue w made

      fresh : (u : Version) → Contains w.versions u → u.key ≡ made.key → u.dot ≡ made.dot → ⊥
      fresh u h k d =
          let low = (sound.counted u h).1 in
          let node_is : u.dot.node ≡ node = ap (λ x. x.node) d in
          let counter_is : u.dot.counter ≡ w.counters node key + 1 = ap (λ x. x.counter) d in
          let last_is : w.counters u.dot.node u.key ≡ w.counters node key = λ i. w.counters (node_is i) (k i) in
          absurd (omega arith)

      grows : (n : ℕ) (k : List ℕ) → w.counters n k ≤ world_after_step'.counters n k
      grows n k =
          cond_both (is_here n k) (w.counters node key + 1) (w.counters n k) (λ x. w.counters n k ≤ x)
          (λ e.
          let parts = and_parts (eqb n node) (same_key k key) e in
          let node_is = eqb-true n node parts.0 in
          let key_is = same_key_is k key parts.1 in
          let last_is : w.counters n k ≡ w.counters node key = λ i. w.counters (node_is i) (key_is i) in
          omega arith)
          (λ e. omega arith)

      counted : (v : Version) → Contains (made ∷ w.versions) v → (1 ≤ v.dot.counter) × (v.dot.counter ≤ world_after_step'.counters v.dot.node v.key)
      counted v h =
          ⊎_elim
          (λ same.
          let counter_is : v.dot.counter ≡ w.counters node key + 1 = ap (λ x. x.dot.counter) same in
          let last_is : world_after_step'.counters v.dot.node v.key ≡ w.counters node key + 1 =
          ap (λ x. world_after_step'.counters x.dot.node x.key) same
          ∙ cond-true (is_here node key) (w.counters node key + 1) (w.counters node key)
          (and_from (eqb node node) (same_key key key) (eq-eqb node node refl) (same_key_self key)) in
          (omega arith, omega arith))
          (λ older.
          let old = sound.counted v older in
          let more = grows v.dot.node v.key in
          (old.0, omega arith))
          (in_cases made v w.versions h)

      here_or_before : (n : ℕ) (k : List ℕ) (c : ℕ) → 1 ≤ c → (b : Bool) → is_here n k ≡ b → c ≤ cond b (w.counters node key + 1) (w.counters n k) →
          is_issued (made ∷ w.versions) k (record { node = n; counter = c }) ≡ true
      here_or_before n k c low false is high =
          or_right (same_key made.key k && same_dot made.dot (record { node = n; counter = c })) (is_issued w.versions k (record { node = n; counter = c }))
          (sound.every_counter n k c low high)
      here_or_before n k c low true is high =
          let parts = and_parts (eqb n node) (same_key k key) is in
          let node_is : n ≡ node = eqb-true n node parts.0 in
          let key_is = same_key_is k key parts.1 in
          let last_is : w.counters n k ≡ w.counters node key = λ i. w.counters (node_is i) (key_is i) in
          ⊎_elim
          (λ (before : c < w.counters node key + 1).
          or_right (same_key made.key k && same_dot made.dot (record { node = n; counter = c })) (is_issued w.versions k (record { node = n; counter = c }))
          (sound.every_counter n k c low (omega arith)))
          (λ (new : w.counters node key + 1 ≤ c).
          or_left (same_key made.key k && same_dot made.dot (record { node = n; counter = c })) (is_issued w.versions k (record { node = n; counter = c }))
          (and_from (same_key key k) (same_dot made.dot (record { node = n; counter = c }))
          (ap (same_key key) key_is ∙ same_key_self key)
          (and_from (eqb node n) (eqb (w.counters node key + 1) c) (eq-eqb node n (sym node_is)) (eq-eqb (w.counters node key + 1) c (omega arith)))))
          (cases_lt c (w.counters node key + 1))

      every_counter : (n : ℕ) (k : List ℕ) (c : ℕ) → 1 ≤ c → c ≤ world_after_step'.counters n k → is_issued (made ∷ w.versions) k (record { node = n; counter = c }) ≡ true
      every_counter n k c low high = here_or_before n k c low (is_here n k) refl high

  pub hold_sound : (holder home : ℕ) (row : Siblings) → may_hold (layout.homes row.key) holder home ≡ true →
      All (λ v. (v.key ≡ row.key) × Contains w.versions v) row.versions → IsSound layout (after_hold w holder home row)
  hold_sound holder home row may made =
      record {
        ordered = sound.ordered;
        counted = sound.counted;
        every_counter = sound.every_counter;
        held_sound = λ p o k d e. go p o k d (same_place holder home row.key p o k) refl e;
      }
    where
      both : List Version
      both = row_at w holder home row.key ++ row.versions

      go : (p o : ℕ) (k : List ℕ) (d : Dot) (b : Bool) → same_place holder home row.key p o k ≡ b →
          cond b (has_dot (merge (row_at w holder home row.key) row.versions) d) (w.holdings p o k d) ≡ true →
          (may_hold (layout.homes k) p o ≡ true) × (is_issued w.versions k d ≡ true)
      go p o k d false is e = sound.held_sound p o k d e
      go p o k d true is e =
          let place = place_is holder home row.key p o k is in
          let top = any_gives (λ v. same_dot v.dot d) (merge (row_at w holder home row.key) row.versions) e in
          let of = AreOf-held w holder home row made top.item (filter_from _ both top.item top.in_list).0 in (
            (λ i. may_hold (layout.homes (place.key_is i)) (place.holder_is i) (place.home_is i)) ∙ may,
            any_from (λ v. same_key v.key k && same_dot v.dot d) w.versions top.item of.0
                (and_from (same_key top.item.key k) (same_dot top.item.dot d)
                (ap (λ j. same_key j k) (of.1 ∙ sym place.key_is) ∙ same_key_self k) top.passes),
          )

  pub release_sound : (holder home : ℕ) (key : List ℕ) (e : Dot) → IsSound layout (after_release w holder home key e)
  release_sound holder home key e =
      record {
        ordered = sound.ordered;
        counted = sound.counted;
        every_counter = sound.every_counter;
        held_sound = λ p o k d h. sound.held_sound p o k d (and_parts (w.holdings p o k d) (not (same_place holder home key p o k && same_dot d e)) h).0;
      }

  pub step_sound : (s : Step) → IsAllowed layout w s → IsSound layout (world_after_step w s)
  step_sound (Issue node key context value) a = issue_sound node key context value
  step_sound (Hold p row) a = hold_sound p.holder p.home row a.0 a.1
  step_sound (Release p key d) a = release_sound p.holder p.home key d
  step_sound (Fetch p key) a = sound
  step_sound (Ack key d count) a =
      record { ordered = sound.ordered; counted = sound.counted; every_counter = sound.every_counter; held_sound = sound.held_sound }
