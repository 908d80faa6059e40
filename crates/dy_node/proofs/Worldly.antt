-- What a node keeps is what the world holds at it, and each step keeps it so.
use Rattle.std.proofs.Common.{◌≡◌, ℕ, ◌+◌, ◌==◌, true, false, ◌&&◌, not, cond, max}
use Rattle.std.proofs.Common.{unwrap_or, List, ◌++◌, Option, Some, inl, inr, ◌⊎◌}
use Rattle.std.proofs.Common.{⊎_elim, refl, sym, ap, ◌∙◌, subst, arith}
use Rattle.std.specs.List.{Contains}
use Rattle.std.specs.FinMap as maps
use Rattle.std.specs.FinSet as set
use Rattle.std.specs.Ordering.{nat_cmp, is_eq, eq_by_cmp}
use Rattle.std.specs.Cmp.{tied_itself}
use Rattle.std.specs.Cmp.Lexicographic.{slice_cmp, nat_list_cmp_total}
use Rattle.std.proofs.lemmas.Bool.{cases_Bool, or_left, and_from, and_right, eq-eqb}
use Rattle.std.proofs.lemmas.Bool.{cond-true, cond-false}
use Rattle.std.proofs.lemmas.Map.Lookups.{exact_bytes}
use Rattle.std.proofs.lemmas.Map.Views.{tells_apart}
use Rattle.std.proofs.lemmas.List.Elements.{Contains-append_left}
use Rattle.std.proofs.lemmas.List.Elements.{Contains-append_right, Contains-append_cases}
use Rattle.dy_dots.specs.Dots.{DotSet, same_dot}
use Rattle.dy_dots.specs.declared.dots.Dot.{Dot}
use Rattle.dy_siblings.specs.Versions.{in_history}
use Rattle.dy_siblings.specs.Siblings.{Siblings, same_key, merge, newest, IsSameRow}
use Rattle.dy_siblings.specs.declared.versions.Version.{Version}
use Rattle.dy_node_store.specs.Counters.{Counters, greatest_used, with_used}
use Rattle.dy_core.specs.Worlds.{Layout, World, AreMadeOf, row_at}
use Rattle.dy_core.specs.Steps.{version_made, after_issue, after_hold, after_release, same_place}
use Rattle.dy_core.specs.Logs.{world_after}
use Rattle.dy_core.specs.declared.steps.Step.{Step}
use Rattle.dy_siblings.proofs.Members.{any_gives, any_from, filter_in, filter_from}
use Rattle.dy_dots.proofs.SameDots.{same_dot_self}
use Rattle.dy_siblings.proofs.SameKeys.{same_key_is, same_key_self}
use Rattle.dy_core.proofs.Ordered.{AreOf, newest_covers}
use Rattle.dy_core.proofs.Standing.{place_is}
use Rattle.dy_core.proofs.Merging.{newest_same, same_row_on, same_row_back}
use Rattle.dy_core.proofs.Kept.{IsSound}
use Rattle.dy_core.proofs.Keeping.{but, hold_row, hold_elsewhere, release_row, release_elsewhere}
use Rattle.dy_shares.specs.Shares.{NodePart, BelongsTo}
use Rattle.dy_index.proofs.OfKeys.{issue_rows}
use Rattle.dy_node.specs.Stored.{Rooms, Stored, Matches, Shows, shown_world}
use Rattle.dy_node.specs.Stored.{versions_at}
use Rattle.dy_node.specs.inside.Placing.{EitherAt}

-- ---- what a share shows is what the world holds

module _ (steps : List Step) (p : NodePart) (belongs : BelongsTo steps p) where
  -- so what is kept, where it is what the share shows, is what the world holds
  pub matches_world : (s : Stored) → Shows p s → Matches (world_after steps) s
  matches_world s is =
      record {
        rows_are = λ home key.
            subst (λ n. IsSameRow (versions_at s.rooms home key)
            (row_at (world_after steps) n home key)) (sym is.node_is)
            (same_row_on _ _ _ (subst
            (λ n. IsSameRow (versions_at s.rooms home key) (row_at (shown_world p) n home key))
            is.node_is (is.shown.rows_are home key)) (belongs.shows_rows home key));
        counters_are = λ key. is.shown.counters_are key
            ∙ (λ i. (shown_world p).counters (is.node_is i) key) ∙ belongs.shows_counters key
            ∙ (λ i. (world_after steps).counters (sym is.node_is i) key);
      }

  pub shows_share : (s : Stored) → s.rooms.node ≡ p.node → Matches (world_after steps) s → Shows p s
  shows_share s node_is is =
      record {
        node_is = node_is;
        shown = record {
          rows_are = λ home key.
              subst (λ n. IsSameRow (versions_at s.rooms home key)
              (row_at (shown_world p) n home key)) (sym node_is)
              (same_row_on _ _ _ (subst
              (λ n. IsSameRow (versions_at s.rooms home key)
              (row_at (world_after steps) n home key)) node_is (is.rows_are home key))
              (same_row_back _ _ (belongs.shows_rows home key)));
          counters_are = λ key. is.counters_are key
              ∙ (λ i. (world_after steps).counters (node_is i) key) ∙ sym
              (belongs.shows_counters key) ∙ (λ i. (shown_world p).counters (sym node_is i) key);
        };
      }

-- ---- rows

-- the merge of the same rows is the same
pub merge_same : (xs ys zs : List Version) → IsSameRow xs ys → IsSameRow (merge xs zs) (merge ys zs)
merge_same xs ys zs same = newest_same (xs ++ zs) (ys ++ zs)
    (λ v. (over xs ys (λ u. (same u).0) v, over ys xs (λ u. (same u).1) v))
  where
    over : (ps qs : List Version) → ((u : Version) → Contains ps u → Contains qs u) →
        (v : Version) → Contains (ps ++ zs) v → Contains (qs ++ zs) v
    over ps qs f v h = ⊎_elim (λ l. Contains-append_left qs zs v (f v l))
        (λ r. Contains-append_right qs zs v r) (Contains-append_cases ps zs v h)

-- the same rows are the same without a dot
but_same : (xs ys : List Version) (d : Dot) → IsSameRow xs ys → IsSameRow (but xs d) (but ys d)
but_same xs ys d same v = (
  (λ h. let f = filter_from (λ u. not (same_dot u.dot d)) xs v h in filter_in
      (λ u. not (same_dot u.dot d)) ys v ((same v).0 f.0) f.1),
  (λ h. let f = filter_from (λ u. not (same_dot u.dot d)) ys v h in filter_in
      (λ u. not (same_dot u.dot d)) xs v ((same v).1 f.0) f.1),
)

not_there : (holder home : ℕ) (key : List ℕ) (o : ℕ) (k : List ℕ) → (o ≡ home → k ≡ key → ⊥) →
    same_place holder home key holder o k ≡ false
not_there holder home key o k apart =
    ⊎_elim (λ yes. let place = place_is holder home key holder o k yes in absurd
    (apart place.home_is place.key_is)) (λ no. no)
    (cases_Bool (same_place holder home key holder o k))

-- ---- steps

module _ (layout : Layout) (w : World) (sound : IsSound layout w) (s t : Stored) (is : Matches w s)
    (node_is : t.rooms.node ≡ s.rooms.node) (counters_stay : t.counters ≡ s.counters) where
  -- a row that is merged into what is kept is merged at the node
  pub hold_matches : (home : ℕ) (row : Siblings) → AreMadeOf w row.key row.versions →
      (vs : List Version) →
      IsSameRow vs (merge (versions_at s.rooms home row.key) row.versions) →
      ((o : ℕ) (k : List ℕ) → EitherAt home row.key vs o k (versions_at t.rooms o k)
      (versions_at s.rooms o k)) →
      Matches (after_hold w s.rooms.node home row) t
  hold_matches home row made vs merged placed =
      record {
        rows_are = λ o k. subst (λ n. IsSameRow (versions_at t.rooms o k)
            (row_at (after_hold w s.rooms.node home row) n o k)) (sym node_is)
            (either o k (placed o k));
        counters_are = λ k. ap (λ m. greatest_used m k) counters_stay ∙ is.counters_are k
            ∙ (λ i. w.counters (sym node_is i) k);
      }
    where
      here : IsSameRow vs (row_at (after_hold w s.rooms.node home row) s.rooms.node home row.key)
      here = same_row_on _ _ _ merged
          (same_row_on _ _ _ (merge_same _ _ row.versions (is.rows_are home row.key))
          (hold_row w sound.ordered s.rooms.node home row made))

      either : (o : ℕ) (k : List ℕ) → EitherAt home row.key vs o k (versions_at t.rooms o k)
          (versions_at s.rooms o k) → IsSameRow (versions_at t.rooms o k)
          (row_at (after_hold w s.rooms.node home row) s.rooms.node o k)
      either o k (inl at) =
          subst (λ xs. IsSameRow xs (row_at (after_hold w s.rooms.node home row) s.rooms.node o k))
          (sym at.2)
          (subst (λ j. IsSameRow vs (row_at (after_hold w s.rooms.node home row) s.rooms.node o j))
          (sym at.1)
          (subst (λ h. IsSameRow vs
          (row_at (after_hold w s.rooms.node home row) s.rooms.node h row.key))
          (sym at.0) here))
      either o k (inr other) =
          subst (λ xs. IsSameRow xs (row_at (after_hold w s.rooms.node home row) s.rooms.node o k))
          (sym other.1)
          (same_row_on _ _ _ (is.rows_are o k)
          (hold_elsewhere w s.rooms.node home row s.rooms.node o k
          (not_there s.rooms.node home row.key o k other.0)))

  -- a dot that leaves what is kept is given up at the node
  pub release_matches : (home : ℕ) (key : List ℕ) (d : Dot) → (vs : List Version) →
      IsSameRow vs (but (versions_at s.rooms home key) d) →
      ((o : ℕ) (k : List ℕ) → EitherAt home key vs o k (versions_at t.rooms o k)
      (versions_at s.rooms o k)) →
      Matches (after_release w s.rooms.node home key d) t
  release_matches home key d vs left placed =
      record {
        rows_are = λ o k. subst (λ n. IsSameRow (versions_at t.rooms o k)
            (row_at (after_release w s.rooms.node home key d) n o k)) (sym node_is)
            (either o k (placed o k));
        counters_are = λ k. ap (λ m. greatest_used m k) counters_stay ∙ is.counters_are k
            ∙ (λ i. w.counters (sym node_is i) k);
      }
    where
      here : IsSameRow (but (versions_at s.rooms home key) d)
          (row_at (after_release w s.rooms.node home key d) s.rooms.node home key)
      here = same_row_on _ _ _ (but_same (versions_at s.rooms home key)
          (row_at w s.rooms.node home key) d (is.rows_are home key))
          (same_row_back _ _ (release_row w s.rooms.node home key d))

      either : (o : ℕ) (k : List ℕ) → EitherAt home key vs o k (versions_at t.rooms o k)
          (versions_at s.rooms o k) → IsSameRow (versions_at t.rooms o k)
          (row_at (after_release w s.rooms.node home key d) s.rooms.node o k)
      either o k (inl at) =
          subst (λ xs. IsSameRow xs
          (row_at (after_release w s.rooms.node home key d) s.rooms.node o k)) (sym at.2)
          (subst (λ j. IsSameRow vs
          (row_at (after_release w s.rooms.node home key d) s.rooms.node o j)) (sym at.1)
          (subst (λ h. IsSameRow vs
          (row_at (after_release w s.rooms.node home key d) s.rooms.node h key)) (sym at.0)
          (same_row_on _ _ _ left here)))
      either o k (inr other) =
          subst (λ xs. IsSameRow xs
          (row_at (after_release w s.rooms.node home key d) s.rooms.node o k)) (sym other.1)
          (same_row_on _ _ _ (is.rows_are o k)
          (same_row_back _ _ (release_elsewhere w s.rooms.node home key d s.rooms.node o k
          (not_there s.rooms.node home key o k other.0))))

-- the counters with one used more
pub used_is : (m : Counters) (k q : List ℕ) (c : ℕ) →
    ((q ≡ k) × (greatest_used (with_used m k c) q ≡ max (greatest_used m k) c))
    ⊎ ((q ≡ k → ⊥) × (greatest_used (with_used m k c) q ≡ greatest_used m q))
used_is m k q c =
    elim (eq_by_cmp (slice_cmp nat_cmp) q k) as
    (λ b. eq_by_cmp (slice_cmp nat_cmp) q k ≡ b →
    ((q ≡ k) × (greatest_used (with_used m k c) q ≡ max (greatest_used m k) c))
    ⊎ ((q ≡ k → ⊥) × (greatest_used (with_used m k c) q ≡ greatest_used m q))) [
      | true ↦ λ tied. inl (
        tells_apart exact_bytes q k tied,
        got
            ∙ ap (λ b. unwrap_or (cond b (Some (max (greatest_used m k) c)) (maps.get m q)) 0) tied,
      )
      | false ↦ λ apart. inr (
        (λ same. differs same apart),
        got
            ∙ ap (λ b. unwrap_or (cond b (Some (max (greatest_used m k) c)) (maps.get m q)) 0)
            apart,
      )
    ] refl
  where
    got : greatest_used (with_used m k c) q ≡ unwrap_or
        (cond (eq_by_cmp (slice_cmp nat_cmp) q k) (Some (max (greatest_used m k) c)) (maps.get m q))
        0
    got = ap (λ o. unwrap_or o 0)
        (maps.get-insert nat_list_cmp_total m k (max (greatest_used m k) c) q)

    differs : q ≡ k → eq_by_cmp (slice_cmp nat_cmp) q k ≡ false → ⊥
    differs same apart = let both : true ≡ false = sym
        (ap is_eq (ap (λ x. slice_cmp nat_cmp x k) same ∙ tied_itself nat_list_cmp_total k))
        ∙ apart in cc

module _ (layout : Layout) (w : World) (sound : IsSound layout w) (s : Stored) (is : Matches w s)
    (key : List ℕ) (context : DotSet) (value : Option (List ℕ)) where
  abbrev pub made : Version
  made = version_made w s.rooms.node key context value

  -- a version that is made is held nowhere yet, and its counter is used
  pub issue_matches : (t : Stored) → t.rooms ≡ s.rooms → t.counters ≡ with_used s.counters key
      (w.counters s.rooms.node key + 1) → Matches (after_issue w made) t
  issue_matches t same used =
      record {
        rows_are = λ o k. subst (λ (r : Rooms). IsSameRow (versions_at r o k)
            (row_at (after_issue w made) r.node o k)) (sym same)
            (same_row_on _ _ _ (is.rows_are o k)
            (issue_rows layout w sound made refl s.rooms.node o k));
        counters_are = λ k. ap (λ m. greatest_used m k) used ∙ counted k
            (used_is s.counters key k (w.counters s.rooms.node key + 1))
            ∙ (λ i. (after_issue w made).counters (sym (ap (λ (r : Rooms). r.node) same) i) k);
      }
    where
      counted : (k : List ℕ) → ((k ≡ key)
          × (greatest_used (with_used s.counters key (w.counters s.rooms.node key + 1)) k ≡ max
          (greatest_used s.counters key) (w.counters s.rooms.node key + 1)))
          ⊎ ((k ≡ key → ⊥) × (greatest_used
          (with_used s.counters key (w.counters s.rooms.node key + 1)) k ≡ greatest_used
          s.counters k)) →
          greatest_used (with_used s.counters key (w.counters s.rooms.node key + 1))
          k ≡ (after_issue w made).counters s.rooms.node k
      counted k (inl here) =
          let before = is.counters_are key in
          let top : max (greatest_used s.counters key)
          (w.counters s.rooms.node key + 1) ≡ w.counters s.rooms.node key + 1 = omega
          (arith, before) in
          here.1 ∙ top
          ∙ sym (cond-true ((s.rooms.node == s.rooms.node) && same_key k key)
          (w.counters s.rooms.node key + 1) (w.counters s.rooms.node k)
          (and_from (s.rooms.node == s.rooms.node) (same_key k key)
          (eq-eqb s.rooms.node s.rooms.node refl)
          (ap (λ j. same_key j key) here.0 ∙ same_key_self key)))
      counted k (inr other) =
          other.1 ∙ is.counters_are k
          ∙ sym (cond-false ((s.rooms.node == s.rooms.node) && same_key k key)
          (w.counters s.rooms.node key + 1) (w.counters s.rooms.node k)
          (and_right (s.rooms.node == s.rooms.node) (same_key k key)
          (not_same (cases_Bool (same_key k key)))))
        where
          not_same : (same_key k key ≡ true) ⊎ (same_key k key ≡ false) → same_key k key ≡ false
          not_same (inl it) = absurd (other.0 (same_key_is k key it))
          not_same (inr apart) = apart

-- ---- nothing comes of a merge only where there was nothing

pub merge_of_something : (w : World) (layout : Layout) → IsSound layout w →
    (key : List ℕ) (xs ys : List Version) → AreOf w.versions key (xs ++ ys) →
    (v : Version) → Contains (xs ++ ys) v → ((u : Version) → Contains (merge xs ys) u → ⊥) → ⊥
merge_of_something w layout sound key xs ys of v inside none =
    let reached = newest_covers w.versions sound.ordered key (xs ++ ys) of v.dot
    (any_from (λ u. in_history u v.dot) (xs ++ ys) v inside (own v)) in
    let top = any_gives (λ u. in_history u v.dot) (newest (xs ++ ys)) reached in
    none top.item top.in_list
  where
    own : (u : Version) → in_history u u.dot ≡ true
    own u = or_left (same_dot u.dot u.dot) (set.contains u.past u.dot) (same_dot_self u.dot)
