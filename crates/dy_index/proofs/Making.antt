-- The versions of a node of a key, in the order of their counters.
use Rattle.std.proofs.Common.{◌≡◌, ℕ, zero, suc, ◌+◌, ◌-◌, ◌<◌, ◌≤◌, Bool, true, false, cond, ◌&&◌}
use Rattle.std.proofs.Common.{◌==◌, eqb, List, [], ◌∷◌, ◌++◌, length, length-append, get_or}
use Rattle.std.proofs.Common.{slice_get, Option, None, Some, ◌⊎◌, refl, sym, ap, ◌∙◌, subst, inl}
use Rattle.std.proofs.Common.{inr, ⊎_elim, arith}
use Rattle.std.specs.List.{Contains}
use Rattle.std.proofs.lemmas.Bool.{cases_Bool, and_parts, and_from, true≢false, eqb-true, eq-eqb}
use Rattle.std.proofs.lemmas.Bool.{cond-true, cond-false}
use Rattle.std.proofs.lemmas.List.Elements.{Contains-append_left, Contains-append_right}
use Rattle.std.proofs.lemmas.List.Elements.{Contains-append_cases}
use Rattle.std.proofs.lemmas.Option.{slice_get_read, slice_get_within, get_or_from_slice_get}
use Rattle.dy_dots.specs.Dots.{DotSet, same_dot}
use Rattle.dy_dots.specs.declared.dots.Dot.{Dot}
use Rattle.dy_siblings.specs.Siblings.{same_key}
use Rattle.dy_siblings.specs.declared.versions.Version.{Version}
use Rattle.dy_core.specs.Worlds.{Layout, World, empty_world, is_issued}
use Rattle.dy_core.specs.Steps.{IsAllowed, world_after_step, version_made, after_issue}
use Rattle.dy_core.specs.Logs.{world_after, IsLegal}
use Rattle.dy_core.specs.inside.Meanings.{is_by}
use Rattle.dy_core.specs.declared.steps.Step.{Step}
use Rattle.dy_core.specs.declared.steps.Step.TheVariants.{Issue, Hold, Release, Fetch, Ack}
use Rattle.dy_siblings.proofs.Members.{not_in_nil, in_head, in_tail, in_cases, none_from}
use Rattle.dy_dots.proofs.SameDots.{same_dot_is}
use Rattle.dy_siblings.proofs.SameKeys.{same_key_is, same_key_self}
use Rattle.dy_core.proofs.Kept.{IsSound, empty_sound}
use Rattle.dy_core.proofs.OverLogs.{kept_from}
use Rattle.dy_index.specs.Lists.{made_of, AreCounted, list_at, HaveSameMade}

-- a list more without versions is no version more
pub list_at-push : (made : List (List Version)) → HaveSameMade (made ++ [] ∷ []) made
list_at-push [] zero = refl
list_at-push [] (suc node) = refl
list_at-push (vs ∷ later) zero = refl
list_at-push (vs ∷ later) (suc node) = list_at-push later node

-- past the lists there are no versions
pub list_at-past : (made : List (List Version)) (node : ℕ) → length made ≤ node →
    list_at made node ≡ []
list_at-past [] node past = refl
list_at-past (vs ∷ later) zero past = absurd (omega (arith, past))
list_at-past (vs ∷ later) (suc node) past = list_at-past later node (omega (arith, past))

pub by_parts : (v : Version) (node : ℕ) (key : List ℕ) → is_by v node key ≡ true →
    (v.dot.node ≡ node) × (v.key ≡ key)
by_parts v node key e =
    let parts = and_parts (eqb v.dot.node node) (same_key v.key key) e in
    (eqb-true v.dot.node node parts.0, same_key_is v.key key parts.1)

pub by_from : (v : Version) (node : ℕ) (key : List ℕ) → v.dot.node ≡ node → v.key ≡ key →
    is_by v node key ≡ true
by_from v node key node_is key_is =
    and_from (eqb v.dot.node node) (same_key v.key key) (eq-eqb v.dot.node node node_is)
    (ap (λ k. same_key k key) key_is ∙ same_key_self key)

pub made_own : (vs : List Version) (key : List ℕ) (node : ℕ) (v : Version) →
    is_by v node key ≡ true → made_of (v ∷ vs) key node ≡ made_of vs key node ++ v ∷ []
made_own vs key node v own =
    cond-true (is_by v node key) (made_of vs key node ++ v ∷ []) (made_of vs key node) own

pub made_other : (vs : List Version) (key : List ℕ) (node : ℕ) (v : Version) →
    is_by v node key ≡ false → made_of (v ∷ vs) key node ≡ made_of vs key node
made_other vs key node v other =
    cond-false (is_by v node key) (made_of vs key node ++ v ∷ []) (made_of vs key node) other

pub in_made : (vs : List Version) (key : List ℕ) (node : ℕ) (v : Version) → Contains vs v →
    is_by v node key ≡ true → Contains (made_of vs key node) v
in_made [] key node v h e = absurd (not_in_nil v h)
in_made (x ∷ vs) key node v h e =
    go (is_by x node key) refl (in_cases x v vs h) (λ later. in_made vs key node v later e)
  where
    go : (b : Bool) → is_by x node key ≡ b → (v ≡ x) ⊎ Contains vs v →
        (Contains vs v → Contains (made_of vs key node) v) →
        Contains (cond b (made_of vs key node ++ x ∷ []) (made_of vs key node)) v
    go true is (inl same) below =
        subst (Contains (made_of vs key node ++ x ∷ [])) (sym same)
        (Contains-append_right (made_of vs key node) (x ∷ []) x (in_head x []))
    go true is (inr later) below =
        Contains-append_left (made_of vs key node) (x ∷ []) v (below later)
    go false is (inl same) below =
        absurd (true≢false (sym e ∙ (ap (λ y. is_by y node key) same ∙ is)))
    go false is (inr later) below = below later

pub made_from : (vs : List Version) (key : List ℕ) (node : ℕ) (v : Version) →
    Contains (made_of vs key node) v → Contains vs v × (is_by v node key ≡ true)
made_from [] key node v h = absurd (not_in_nil v h)
made_from (x ∷ vs) key node v h = go (is_by x node key) refl h (made_from vs key node v)
  where
    go : (b : Bool) → is_by x node key ≡ b →
        Contains (cond b (made_of vs key node ++ x ∷ []) (made_of vs key node)) v →
        (Contains (made_of vs key node) v → Contains vs v × (is_by v node key ≡ true)) →
        Contains (x ∷ vs) v × (is_by v node key ≡ true)
    go true is h below =
        ⊎_elim
        (λ l. let r = below l in (in_tail x v vs r.0, r.1))
        (λ r. ⊎_elim (λ same. (
          subst (Contains (x ∷ vs)) (sym same) (in_head x vs),
          ap (λ y. is_by y node key) same
              ∙ is,
        )) (λ none. absurd (not_in_nil v none)) (in_cases x v [] r))
        (Contains-append_cases (made_of vs key node) (x ∷ []) v h)
    go false is h below = let r = below h in (in_tail x v vs r.0, r.1)

pub counted_push : (node n : ℕ) (vs : List Version) (v : Version) → AreCounted node n vs →
    v.dot ≡ record { node = node; counter = n + length vs + 1 } →
    AreCounted node n (vs ++ v ∷ [])
counted_push node n [] v c is = let e : n + 0 + 1 ≡ n + 1 = omega arith in
    (is ∙ (λ i. record { node = node; counter = e i }), tt)
counted_push node n (x ∷ xs) v c is =
    let e : n + length (x ∷ xs) + 1 ≡ n + 1 + length xs + 1 = omega arith in
    (c.0, counted_push node (n + 1) xs v c.1 (is ∙ (λ i. record { node = node; counter = e i })))

-- a version of the list has the counter of its place
pub counted_at : (node n : ℕ) (vs : List Version) (i : ℕ) (v : Version) → AreCounted node n vs →
    i < length vs → get_or vs i v ≡ v → v.dot ≡ record { node = node; counter = n + i + 1 }
counted_at node n [] i v c lt is = absurd (omega (arith, lt))
counted_at node n (x ∷ xs) zero v c lt is = let e : n + 1 ≡ n + 0 + 1 = omega arith in
    ap (λ y. y.dot) (sym is) ∙ (c.0 ∙ (λ j. record { node = node; counter = e j }))
counted_at node n (x ∷ xs) (suc i) v c lt is =
    let e : n + 1 + i + 1 ≡ n + suc i + 1 = omega arith in
    counted_at node (n + 1) xs i v c.1 (omega (arith, lt)) is
    ∙ (λ j. record { node = node; counter = e j })

-- the versions of each node have its counters from 1 on, without a gap
abbrev pub AllCounted : World → Type 0
AllCounted w = (key : List ℕ) (node : ℕ) →
    AreCounted node 0 (made_of w.versions key node)
    × (length (made_of w.versions key node) ≡ w.counters node key)

module _ (w : World) (counted : AllCounted w) (maker : ℕ) (own : List ℕ) (context : DotSet)
    (value : Option (List ℕ)) where
  abbrev made : Version
  made = version_made w maker own context value

  counter_test : (key : List ℕ) (node : ℕ) → is_by made node key ≡ false →
      ((node == maker) && same_key key own) ≡ false
  counter_test key node other =
      ⊎_elim
      (λ yes.
      let parts = and_parts (eqb node maker) (same_key key own) yes in
      absurd (true≢false (sym
      (by_from made node key (sym (eqb-true node maker parts.0))
      (sym (same_key_is key own parts.1))) ∙ other)))
      (λ no. no)
      (cases_Bool ((node == maker) && same_key key own))

  issue_counted : AllCounted (after_issue w made)
  issue_counted key node =
      ⊎_elim
      (λ by.
      let parts = by_parts made node key by in
      let old = counted key node in
      let number : w.counters maker own + 1 ≡ 0 + length (made_of w.versions key node) + 1 =
      (λ i. w.counters (parts.0 i) (parts.1 i) + 1) ∙ (ap (λ n. n + 1) (sym old.1) ∙ omega arith) in
      let grown = made_own w.versions key node made by in (
        subst (AreCounted node 0) (sym grown)
            (counted_push node 0 (made_of w.versions key node) made old.0
            (λ i. record { node = parts.0 i; counter = number i })),
        ap length grown
            ∙ (length-append (made_of w.versions key node) (made ∷ [])
            ∙ (ap (λ n. n + 1) old.1
            ∙ ((λ i. w.counters (sym parts.0 i) (sym parts.1 i) + 1)
            ∙ sym (cond-true ((node == maker) && same_key key own) (w.counters maker own + 1)
            (w.counters node key)
            (and_from (eqb node maker) (same_key key own) (eq-eqb node maker (sym parts.0))
            (ap (λ k. same_key k own) (sym parts.1) ∙ same_key_self own)))))),
      ))
      (λ other.
      let old = counted key node in
      let same = made_other w.versions key node made other in (
        subst (AreCounted node 0) (sym same) old.0,
        ap length same ∙ (old.1
            ∙ sym (cond-false ((node == maker) && same_key key own) (w.counters maker own + 1)
            (w.counters node key) (counter_test key node other))),
      ))
      (cases_Bool (is_by made node key))

step_counted : (layout : Layout) (w : World) → IsSound layout w →
    (s : Step) → IsAllowed layout w s → AllCounted w → AllCounted (world_after_step w s)
step_counted layout w sound (Issue node key context value) a counted =
    issue_counted w counted node key context value
step_counted layout w sound (Hold p row) a counted = counted
step_counted layout w sound (Release p key d) a counted = counted
step_counted layout w sound (Fetch p key) a counted = counted
step_counted layout w sound (Ack key d n) a counted = counted

pub log_counted : (layout : Layout) (ss : List Step) → IsLegal layout ss →
    AllCounted (world_after ss)
log_counted layout ss legal =
    kept_from layout AllCounted (step_counted layout) empty_world (empty_sound layout) ss legal
    (λ key node. (tt, refl))

module _ (w : World) (counted : AllCounted w) (key : List ℕ) (d : Dot) (low : 1 ≤ d.counter) where
  -- the version at the place of its counter is the dot's
  pub version_there : (v : Version) →
      slice_get (made_of w.versions key d.node) (d.counter - 1) ≡ Some v →
      Contains w.versions v × (v.key ≡ key) × (v.dot ≡ d)
  version_there v at =
      let vs = made_of w.versions key d.node in
      let lt : d.counter - 1 < length vs = slice_get_within vs (d.counter - 1) v at in
      let is = get_or_from_slice_get vs (d.counter - 1) v v at in
      let inside = made_from w.versions key d.node v (d.counter - 1, lt, is) in
      let number : 0 + (d.counter - 1) + 1 ≡ d.counter = omega (arith, low) in (
        inside.0,
        (by_parts v d.node key inside.1).1,
        counted_at d.node 0 vs (d.counter - 1) v
            (counted key d.node).0 lt is ∙ (λ i. record { node = d.node; counter = number i }),
      )

  -- where there is none, none was made
  pub none_there : slice_get (made_of w.versions key d.node) (d.counter - 1) ≡ None →
      is_issued w.versions key d ≡ false
  none_there at =
      none_from (λ v. same_key v.key key && same_dot v.dot d) w.versions (λ v inside test.
      let parts = and_parts (same_key v.key key) (same_dot v.dot d) test in
      let dot_is = same_dot_is v.dot d parts.1 in
      let vs = made_of w.versions key d.node in
      let h = in_made w.versions key d.node v inside
      (by_from v d.node key (ap (λ x. x.node) dot_is) (same_key_is v.key key parts.0)) in
      let counter_is : d.counter ≡ 0 + h.0 + 1 =
      sym (ap (λ x. x.counter) dot_is)
      ∙ ap (λ x. x.counter) (counted_at d.node 0 vs h.0 v (counted key d.node).0 h.1 h.2) in
      let place : d.counter - 1 ≡ h.0 = omega (arith, counter_is) in
      let there : slice_get vs (d.counter - 1) ≡ Some v =
      ap (slice_get vs) place ∙ slice_get_read vs (length vs) h.0 v refl h.1 (sym h.2) in
      let clash : None ≡ Some v = sym at ∙ there in
      cc)
