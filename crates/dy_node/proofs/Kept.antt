-- Each call keeps what a node has as its share shows it, and as the world holds it.
use Rattle.std.proofs.Common.{[], ◌≡◌, ℕ, ◌+◌, ◌<◌, ◌==◌, Bool, true, false, cond, max}
use Rattle.std.proofs.Common.{unwrap_or, List, ◌∷◌, ◌++◌, Some, None, inl, inr, ◌⊎◌}
use Rattle.std.proofs.Common.{⊎_elim, refl, sym, ap, ◌∙◌, subst, arith, zero, suc, Option}
use Rattle.std.specs.List.{Contains}
use Rattle.std.specs.FinMap as maps
use Rattle.std.specs.Ordering.{nat_cmp, is_eq}
use Rattle.std.specs.Cmp.{tied_itself}
use Rattle.std.specs.Cmp.Lexicographic.{slice_cmp, nat_list_cmp_total}
use Rattle.std.proofs.lemmas.Bool.{cases_lt}
use Rattle.std.proofs.lemmas.List.Elements.{All-contains, Contains-append_left}
use Rattle.std.proofs.lemmas.List.Elements.{Contains-append_cases}
use Rattle.dy_dots.specs.declared.nodes.TheConstants.{MAX_NODES}
use Rattle.dy_siblings.specs.Siblings.{Siblings, IsSameRow, AreOneByDot}
use Rattle.dy_siblings.specs.declared.versions.Version.{Version}
use Rattle.dy_node_store.specs.Rows.{versions_in, versions_of}
use Rattle.dy_hint_store.specs.Hints.{home_then_key, versions_for}
use Rattle.dy_node_store.specs.Counters.{Counters, greatest_used, with_used}
use Rattle.dy_node_store.proofs.Maps.{insert_present}
use Rattle.dy_core.specs.Worlds.{Layout, World, AreMadeOf, empty_world, row_at}
use Rattle.dy_core.specs.Steps.{version_made, after_issue, after_hold}
use Rattle.dy_core.specs.Steps.{place_for}
use Rattle.dy_core.specs.Logs.{world_from, IsLegal, IsLegalFrom}
use Rattle.dy_core.specs.declared.steps.Step.{Step}
use Rattle.dy_siblings.proofs.Members.{in_head}
use Rattle.dy_siblings.proofs.Members.{not_in_nil}
use Rattle.dy_core.proofs.Keeping.{all_from}
use Rattle.dy_core.proofs.Ordered.{AreOf, same_version}
use Rattle.dy_core.proofs.Standing.{stands_from}
use Rattle.dy_core.proofs.Kept.{IsSound, step_sound}
use Rattle.dy_core.proofs.OverLogs.{log_sound, legal_rest}
use Rattle.dy_shares.specs.Shares.{NodePart, shown_from, steps_of, with_steps}
use Rattle.dy_book.proofs.Holding.{steps_grown, world_grown}
use Rattle.dy_book.specs.Books.{BookParts, issue_steps, row_alone, with_untold, world_of}
use Rattle.dy_core.specs.declared.steps.Step.TheVariants.{Issue, Hold}
use Rattle.dy_node.specs.Stored.{Rooms, Stored, Matches, Shows, empty_rooms, shown_world}
use Rattle.dy_node.specs.Stored.{hints_below, kept_rows, listed}
use Rattle.dy_node.specs.Stored.{ShowsNothing, versions_at}
use Rattle.dy_node.specs.inside.Agreed.{IsAgreed}
use Rattle.dy_node.specs.Nodes.{HasCounterLeft, LacksCounter}
use Rattle.dy_node.specs.inside.Placing.{EitherAt, IsAdded, IsMerged, IsUnmerged}
use Rattle.dy_node_store.specs.declared.placed.Placed.{Placed}
use Rattle.dy_node.proofs.MergedRows.{stays_placed}
use Rattle.dy_node.proofs.Worldly.{hold_matches, issue_matches, matches_world}
use Rattle.dy_node.proofs.Worldly.{merge_of_something, shows_share, used_is}

-- ---- calls

pub made_at : (w : World) (n home : ℕ) (key : List ℕ) (xs : List Version) →
    IsSameRow xs (row_at w n home key) → AreOf w.versions key xs
made_at w n home key xs same v h = let st = stands_from w n home key v
    ((same v).0 h) in (st.made, st.key_is)

of_both : (all : List Version) (key : List ℕ) (xs ys : List Version) → AreOf all key xs →
    AreOf all key ys → AreOf all key (xs ++ ys)
of_both all key xs ys of_xs of_ys v h = ⊎_elim (λ l. of_xs v l) (λ r. of_ys v r)
    (Contains-append_cases xs ys v h)

of_made : (w : World) (key : List ℕ) (vs : List Version) → AreMadeOf w key vs →
    AreOf w.versions key vs
of_made w key vs made v h = let m = All-contains (λ x. (x.key ≡ key) × Contains w.versions x) vs v
    made h in (m.1, m.0)

pub one_by_dot : (w : World) (layout : Layout) → IsSound layout w →
    (key : List ℕ) (vs : List Version) → AreOf w.versions key vs → AreOneByDot vs
one_by_dot w layout sound key vs of u v in_u in_v dots =
    same_version w.versions sound.ordered u v (of u in_u).0 (of v in_v).0
    ((of u in_u).1 ∙ sym (of v in_v).1) dots

no_members : (xs : List Version) → ((v : Version) → Contains xs v → ⊥) → [] ≡ xs
no_members [] none = refl
no_members (x ∷ xs) none = absurd (none x (in_head x xs))

-- a row that was added is held
pub added_matches : (layout : Layout) (w : World) → IsSound layout w →
    (s t : Stored) (home : ℕ) (row : Siblings) (placed : Placed) → Matches w s →
    AreMadeOf w row.key row.versions →
    t.counters ≡ s.counters → IsAdded s.rooms t.rooms home row placed →
    Matches (after_hold w s.rooms.node home row) t
added_matches layout w sound s t home row placed is made counters_stay added = by_change
    added.changed
  where
    of : AreOf w.versions row.key (versions_at s.rooms home row.key ++ row.versions)
    of = of_both w.versions row.key (versions_at s.rooms home row.key) row.versions
        (made_at w s.rooms.node home row.key (versions_at s.rooms home row.key)
        (is.rows_are home row.key)) (of_made w row.key row.versions made)

    by_change : IsMerged s.rooms t.rooms home row ⊎ IsUnmerged s.rooms t.rooms home row →
        Matches (after_hold w s.rooms.node home row) t
    by_change (inl m) = hold_matches layout w sound s t is added.node_is counters_stay home row made
        m.versions m.merged m.placed
    by_change (inr u) =
        let none : [] ≡ versions_at s.rooms home row.key = no_members
        (versions_at s.rooms home row.key)
        (λ v h. merge_of_something w layout sound row.key (versions_at s.rooms home row.key)
        row.versions of v (Contains-append_left (versions_at s.rooms home row.key) row.versions
        v h) u.none) in
        hold_matches layout w sound s t is added.node_is counters_stay home row made
        (versions_at s.rooms home row.key)
        (λ v. (
          (λ h. absurd (not_in_nil v (subst (λ xs. Contains xs v) (sym none) h))),
          (λ h. absurd (u.none v h)),
        ))
        (λ o k. subst (λ r. EitherAt home row.key (versions_at s.rooms home row.key) o k
        (versions_at r o k) (versions_at s.rooms o k)) (sym u.stays)
        (stays_placed s.rooms home row.key o k))

-- the world of a book with some steps of a node more
pub world_more : (b : BookParts) (ss : List Step) → world_of (with_untold b ss) ≡ world_from
    (world_of b) ss
world_more b ss = world_grown b.log ss

pub legal_more : (layout : Layout) (b : BookParts) (ss : List Step) →
    IsLegal layout (steps_of (with_untold b ss).log) → IsLegalFrom layout (world_of b) ss
legal_more layout b ss legal = legal_rest layout empty_world (steps_of b.log) ss
    (subst (IsLegal layout) (steps_grown b.log ss) legal)

-- a row that was held is kept
pub hold_shows : (layout : Layout) (b c : BookParts) (p q : NodePart) (s t : Stored) (home : ℕ)
    (row : Siblings) (placed : Placed) → IsAgreed layout b p → IsAgreed layout c q → Shows p s →
    c ≡ with_untold b (Hold (place_for p.node home) row ∷ []) →
    q ≡ with_steps p (Hold (place_for p.node home) row ∷ []) →
    t.counters ≡ s.counters → IsAdded s.rooms t.rooms home row placed → Shows q t
hold_shows layout b c p q s t home row placed before after is c_is q_is counters_stay added =
    shows_share (steps_of c.log) q after.belongs t
    (added.node_is ∙ is.node_is ∙ sym (ap (λ (x : NodePart). x.node) q_is))
    (subst (λ w. Matches w t)
    (sym (ap world_of c_is ∙ world_more b (Hold (place_for p.node home) row ∷ [])))
    (subst (λ n. Matches (after_hold (world_of b) n home row) t) is.node_is
    (added_matches layout (world_of b) (log_sound layout (steps_of b.log) before.legal) s t home row
    placed (matches_world (steps_of b.log) p before.belongs s is) allowed.0.1 counters_stay
    added)))
  where
    allowed : IsLegalFrom layout (world_of b) (Hold (place_for p.node home) row ∷ [])
    allowed = legal_more layout b (Hold (place_for p.node home) row ∷ [])
        (subst (λ x. IsLegal layout (steps_of x.log)) c_is after.legal)

-- what a node keeps is what the world holds at it
pub state_holds : (layout : Layout) (b : BookParts) (p : NodePart) (s : Stored) →
    IsAgreed layout b p → Shows p s → (home : ℕ) (key : List ℕ) →
    IsSameRow (versions_at s.rooms home key) (row_at (world_of b) p.node home key)
state_holds layout b p s agreed is home key =
    subst (λ n. IsSameRow (versions_at s.rooms home key) (row_at (world_of b) n home key))
    is.node_is ((matches_world (steps_of b.log) p agreed.belongs s is).rows_are home key)

-- what a node keeps was issued
pub kept_made : (layout : Layout) (b : BookParts) (p : NodePart) (s : Stored) →
    IsAgreed layout b p → Shows p s → (home : ℕ) (key : List ℕ) →
    AreMadeOf (world_of b) key (versions_at s.rooms home key)
kept_made layout b p s agreed is home key =
    let kept = versions_at s.rooms home key in
    let of = made_at (world_of b) p.node home key kept
    (state_holds layout b p s agreed is home key) in
    all_from (λ v. (v.key ≡ key) × Contains (world_of b).versions v) kept
    (λ v h. ((of v h).1, (of v h).0))

-- what a node keeps agrees with a row of versions that were issued
pub kept_agrees : (layout : Layout) (b : BookParts) (p : NodePart) (s : Stored) →
    IsAgreed layout b p → Shows p s → (home : ℕ) (row : Siblings) →
    AreMadeOf (world_of b) row.key row.versions →
    AreOneByDot (versions_at s.rooms home row.key ++ row.versions)
kept_agrees layout b p s agreed is home row made =
    let kept = versions_at s.rooms home row.key in
    one_by_dot (world_of b) layout (log_sound layout (steps_of b.log) agreed.legal) row.key
    (kept ++ row.versions)
    (of_both (world_of b).versions row.key kept row.versions
    (made_at (world_of b) p.node home row.key kept
    (state_holds layout b p s agreed is home row.key))
    (of_made (world_of b) row.key row.versions made))

-- the book and the share as they are lent on
pub agreed_on : (layout : Layout) (b c : BookParts) (p q : NodePart) → c ≡ b → q ≡ p →
    IsAgreed layout b p → IsAgreed layout c q
agreed_on layout b c p q same_book same_share agreed = subst (λ x. IsAgreed layout x q)
    (sym same_book) (subst (λ x. IsAgreed layout b x) (sym same_share) agreed)

-- nothing is kept where no step was made
empty_at : (home : ℕ) (key : List ℕ) (a : Bool) →
    cond a (versions_of (maps.empty {X = Siblings} {R = slice_cmp nat_cmp}) key)
    (versions_for maps.empty home key) ≡ []
empty_at home key true = ap versions_in (maps.get-empty (slice_cmp nat_cmp) key)
empty_at home key false = ap versions_in (maps.get-empty home_then_key (home, key))

pub first_shows : (p : NodePart) (s : Stored) → ShowsNothing p →
    s ≡ record { rooms = empty_rooms p.node; counters = maps.empty } → Shows p s
first_shows p s nothing is = subst (Shows p) (sym is) (record {
  node_is = refl;
  shown = record {
    rows_are = λ home key v. (
      (λ h. absurd
          (not_in_nil v (subst (λ vs. Contains vs v) (empty_at home key (home == p.node)) h))),
      (λ h. absurd (not_in_nil v (subst (λ vs. Contains vs v) (nothing.no_rows home key) h))),
    );
    counters_are = λ key.
        ap (λ o. unwrap_or o 0) (maps.get-empty (slice_cmp nat_cmp) key)
        ∙ sym (nothing.no_counters key);
  };
})

-- who made no step shows nothing
pub shows_nothing : (p : NodePart) → p.steps ≡ [] → ShowsNothing p
shows_nothing p none = record {
  no_rows = λ home key. ap (λ ss. row_at (shown_from empty_world ss) p.node home key) none;
  no_counters = λ key. ap (λ ss. (shown_from empty_world ss).counters p.node key) none;
}

-- ---- a version that is made

-- to use no counter changes nothing
zero_used : (m : Counters) (k q : List ℕ) → greatest_used (with_used m k 0) q ≡ greatest_used m q
zero_used m k q = by_key (used_is m k q 0)
  where
    by_key : ((q ≡ k) × (greatest_used (with_used m k 0) q ≡ max (greatest_used m k) 0))
        ⊎ ((q ≡ k → ⊥) × (greatest_used (with_used m k 0) q ≡ greatest_used m q)) →
        greatest_used (with_used m k 0) q ≡ greatest_used m q
    by_key (inl here) = here.1 ∙ none (greatest_used m k) ∙ ap (greatest_used m) (sym here.0)
      where
        none : (n : ℕ) → max n 0 ≡ n
        none n = omega arith
    by_key (inr other) = other.1

zero_matches : (w : World) (s t : Stored) (key : List ℕ) → Matches w s → t.rooms ≡ s.rooms →
    t.counters ≡ with_used s.counters key 0 → Matches w t
zero_matches w s t key is same used =
    record {
      rows_are = λ o k. subst (λ (r : Rooms). IsSameRow (versions_at r o k) (row_at w r.node o k))
          (sym same) (is.rows_are o k);
      counters_are = λ k. ap (λ m. greatest_used m k) used ∙ zero_used s.counters key k
          ∙ is.counters_are k ∙ (λ i. w.counters (sym (ap (λ (r : Rooms). r.node) same) i) k);
    }

pub zero_shows : (p : NodePart) (s t : Stored) (key : List ℕ) → Shows p s → t.rooms ≡ s.rooms →
    t.counters ≡ with_used s.counters key 0 → Shows p t
zero_shows p s t key is same used =
    record {
      node_is = ap (λ (r : Rooms). r.node) same ∙ is.node_is;
      shown = zero_matches
          (shown_world p) s t key is.shown same used;
    }

-- what was used is there
pub used_there : (m : Counters) (k : List ℕ) (c : ℕ) → maps.get (with_used m k c) k ≡ None → ⊥
used_there m k c none =
    let there : maps.get (with_used m k c) k ≡ Some (max (greatest_used m k) c) =
    maps.get-insert nat_list_cmp_total m k (max (greatest_used m k) c) k
    ∙ ap (λ o. cond (is_eq o) (Some (max (greatest_used m k) c)) (maps.get m k))
    (tied_itself nat_list_cmp_total k) in
    let clash : Some (max (greatest_used m k) c) ≡ None = sym there ∙ none in cc

-- where a counter was used, to use 0 changes nothing
pub used_stays : (m : Counters) (k : List ℕ) → 0 < greatest_used m k → with_used m k 0 ≡ m
used_stays m k used = by_found (maps.get m k) refl used
  where
    by_found : (o : Option ℕ) → maps.get m k ≡ o → 0 < unwrap_or o 0 →
        maps.insert m k (max (unwrap_or o 0) 0) ≡ m
    by_found None is lt = absurd (omega (arith, lt))
    by_found (Some n) is lt =
        let same : max n 0 ≡ n = omega arith in
        ap (maps.insert m k) same ∙ insert_present m k n is

module _ (layout : Layout) (b c : BookParts) (p q : NodePart) (s t : Stored) (home : ℕ)
    (v : Version) (placed : Placed) where
  -- a version that was made and held is kept, and its counter is used
  pub issue_shows : IsAgreed layout b p → IsAgreed layout c q → Shows p s →
      version_made (world_of b) p.node v.key v.past v.value ≡ v →
      c ≡ with_untold b (issue_steps p.node home v) → q ≡ with_steps p (issue_steps p.node home v) →
      t.counters ≡ with_used (with_used s.counters v.key 0) v.key
      (greatest_used s.counters v.key + 1) → IsAdded s.rooms t.rooms home (row_alone v) placed →
      Shows q t
  issue_shows before after is made_is c_is q_is used added =
      shows_share (steps_of c.log) q after.belongs t
      (added.node_is ∙ is.node_is ∙ sym (ap (λ (x : NodePart). x.node) q_is))
      (subst (λ x. Matches x t) (sym (ap world_of c_is ∙ world_more b (issue_steps p.node home v)))
      (subst (λ k. Matches (world_from (world_of b) (issue_steps k home v)) t) is.node_is held))
    where
      w : World
      w = world_of b

      n : ℕ
      n = s.rooms.node

      sound : IsSound layout (world_of b)
      sound = log_sound layout (steps_of b.log) before.legal

      m : Matches (world_of b) s
      m = matches_world (steps_of b.log) p before.belongs s is

      allowed : IsLegalFrom layout (world_of b) (issue_steps s.rooms.node home v)
      allowed = subst (λ k. IsLegalFrom layout (world_of b) (issue_steps k home v)) (sym is.node_is)
          (legal_more layout b (issue_steps p.node home v)
          (subst (λ x. IsLegal layout (steps_of x.log)) c_is after.legal))

      it : version_made (world_of b) s.rooms.node v.key v.past v.value ≡ v
      it = subst (λ k. version_made (world_of b) k v.key v.past v.value ≡ v)
          (sym is.node_is) made_is

      s0 : Stored
      s0 = record { rooms = s.rooms; counters = with_used s.counters v.key 0 }

      s1 : Stored
      s1 = record { rooms = s.rooms; counters = t.counters }

      used_is_next : t.counters ≡ with_used (with_used s.counters v.key 0) v.key
          ((world_of b).counters s.rooms.node v.key + 1)
      used_is_next = used ∙ ap (λ k. with_used (with_used s.counters v.key 0) v.key (k + 1))
          (m.counters_are v.key)

      held : Matches (world_from (world_of b) (issue_steps s.rooms.node home v)) t
      held =
          added_matches layout (after_issue (world_of b)
          (version_made (world_of b) s.rooms.node v.key v.past v.value))
          (step_sound layout (world_of b) sound (Issue s.rooms.node v.key v.past v.value) allowed.0)
          (record { rooms = s.rooms; counters = t.counters }) t home (row_alone v) placed
          (issue_matches layout (world_of b) sound
          (record { rooms = s.rooms; counters = with_used s.counters v.key 0 })
          (zero_matches (world_of b) s
          (record { rooms = s.rooms; counters = with_used s.counters v.key 0 }) v.key m refl
          refl)
          v.key v.past v.value (record { rooms = s.rooms; counters = t.counters }) refl
          used_is_next)
          allowed.1.0.1 refl added

-- the counter that a node has used is the world's
counter_is : (layout : Layout) (b : BookParts) (p : NodePart) (s : Stored) (key : List ℕ) →
    IsAgreed layout b p → Shows p s → greatest_used s.counters key ≡ (world_of b).counters p.node
    key
counter_is layout b p s key agreed is =
    (matches_world (steps_of b.log) p agreed.belongs s is).counters_are key
    ∙ (λ i. (world_of b).counters (is.node_is i) key)

pub counter_left : (layout : Layout) (b : BookParts) (p : NodePart) (s : Stored) (key : List ℕ)
    (limit : ℕ) → IsAgreed layout b p → Shows p s → limit ≡ b.options.counter_limit →
    greatest_used s.counters key < limit → HasCounterLeft b p.node key
counter_left layout b p s key limit agreed is limit_is left = let same = counter_is layout b p s key
    agreed is in omega (arith, same, limit_is, left)

pub counter_lacks : (layout : Layout) (b : BookParts) (p : NodePart) (s : Stored) (key : List ℕ)
    (limit : ℕ) → IsAgreed layout b p → Shows p s → limit ≡ b.options.counter_limit →
    (greatest_used s.counters key < limit → ⊥) → LacksCounter b p.node key
counter_lacks layout b p s key limit agreed is limit_is none =
    ⊎_elim (λ left. absurd (none left))
    (λ lacks. let same = counter_is layout b p s key agreed is in omega
    (arith, same, limit_is, lacks))
    (cases_lt (greatest_used s.counters key) limit)

no_hints : (key : List ℕ) (n : ℕ) → hints_below maps.empty key n ≡ []
no_hints key zero = refl
no_hints key (suc n) =
    ap (λ (o : Option Siblings). hints_below maps.empty key n ++ listed n o)
    (maps.get-empty home_then_key (n, key))
    ∙ ap (λ (rows : List (ℕ × Siblings)). rows ++ []) (no_hints key n)

-- a node that keeps nothing shows nothing of a key
pub nothing_kept : (node : ℕ) (key : List ℕ) → kept_rows (empty_rooms node) key ≡ []
nothing_kept node key =
    ap (λ (o : Option Siblings). listed node o ++ hints_below maps.empty key MAX_NODES)
    (maps.get-empty (slice_cmp nat_cmp) key)
    ∙ no_hints key MAX_NODES
