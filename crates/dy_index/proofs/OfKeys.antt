-- What a part of the index tells of the world, and how a step changes it.
use Rattle.std.proofs.Common.{◌≡◌, ◌≢◌, ℕ, ◌+◌, ◌-◌, ◌≤◌, false, List, [], ◌∷◌, ◌++◌, length}
use Rattle.std.proofs.Common.{slice_get, Option, None, Some, MatchOption, Bor, refl, sym, ap, ◌∙◌}
use Rattle.std.proofs.Common.{subst, ⊎_elim, arith}
use Rattle.std.specs.List.{Contains}
use Rattle.std.specs.List.Sorted.{IsStrictlySortedBy}
use Rattle.std.specs.Option.{option_copied}
use Rattle.dy_dots.specs.declared.dots.Dot.{Dot}
use Rattle.dy_siblings.specs.declared.versions.Version.{Version}
use Rattle.dy_core.specs.Worlds.{Layout, World, AreMadeOf, empty_world, is_issued, row_at}
use Rattle.dy_core.specs.Logs.{world_after, IsLegal}
use Rattle.dy_core.specs.Orders.{holding_cmp, put}
use Rattle.dy_core.specs.declared.steps.Step.{Step}
use Rattle.dy_core.specs.declared.holdings.Holding.{Holding}
use Rattle.dy_siblings.proofs.Members.{in_tail, in_cases}
use Rattle.dy_core.proofs.Ordered.{same_version}
use Rattle.dy_core.proofs.Standing.{stands_from, stands_in, place_is}
use Rattle.dy_core.proofs.Kept.{IsSound}
use Rattle.dy_core.proofs.Merging.{newest_same, same_row_on}
use Rattle.dy_core.proofs.NextVersion.{not_held_yet}
use Rattle.dy_core.proofs.Keeping.{all_from, hold_row, hold_elsewhere}
use Rattle.dy_core.proofs.Held.{spot_from, at_from, row_in-put, holding_cmp_total}
use Rattle.dy_core.proofs.Putting.{put_cases, put_sorted}
use Rattle.dy_core.specs.Steps.{same_place, after_issue, after_hold}
use Rattle.dy_core.specs.inside.Meanings.{is_by, is_at, row_in}
use Rattle.dy_siblings.specs.Siblings.{Siblings, AreOneByDot, IsSameRow, merge}
use Rattle.std.proofs.lemmas.Bool.{cases_Bool, cond-true, cond-false, true≢false}
use Rattle.std.proofs.lemmas.List.Elements.{All-contains, Contains-append_left}
use Rattle.std.proofs.lemmas.List.Elements.{Contains-append_right, Contains-append_cases}
use Rattle.dy_index.specs.declared.parts.KeyPart.{KeyPart}
use Rattle.dy_index.specs.Indexes.{made_in, AreOfKey, IsPart, IsIndex}
use Rattle.dy_index.proofs.Making.{log_counted, version_there, none_there, by_parts, by_from}
use Rattle.dy_index.proofs.Making.{made_own, made_other}

sorted_none : IsStrictlySortedBy holding_cmp []
unfolding IsStrictlySortedBy
sorted_none = tt

-- at first nothing is known
pub empty_part : (key : List ℕ) → IsPart empty_world key None
empty_part key =
    record {
      made_are = λ node. refl;
      rows_are = λ holder home v. (λ h. h, λ h. h);
      in_order = sorted_none;
      of_key = λ k d lt. absurd (omega (arith, lt));
    }

pub empty_index : IsIndex empty_world []
empty_index key = empty_part key

module _ (layout : Layout) (steps : List Step) (legal : IsLegal layout steps) (key : List ℕ) where
  -- how many versions a node made is its counter
  pub count_is : (o : Option KeyPart) → IsPart (world_after steps) key o →
      (node : ℕ) → length (made_in o node) ≡ (world_after steps).counters node key
  count_is o part node =
      ap length (part.made_are node) ∙ (log_counted layout steps legal key node).1

  -- the version at the place of its counter is the dot's
  pub found_is : (o : Option KeyPart) → IsPart (world_after steps) key o →
      (d : Dot) → 1 ≤ d.counter → (r : Option (Bor Version)) →
      option_copied r ≡ slice_get (made_in o d.node) (d.counter - 1) →
      MatchOption r (is_issued (world_after steps).versions key d ≡ false)
      (λ v. Contains (world_after steps).versions v.now × (v.now.key ≡ key) × (v.now.dot ≡ d))
  found_is o part d low None is =
      none_there (world_after steps) (log_counted layout steps legal) key d low
      (ap (λ vs. slice_get vs (d.counter - 1)) (sym (part.made_are d.node)) ∙ sym is)
  found_is o part d low (Some v) is =
      version_there (world_after steps) (log_counted layout steps legal) key d low v.now
      (ap (λ vs. slice_get vs (d.counter - 1)) (sym (part.made_are d.node)) ∙ sym is)

-- what was made of a key, and what is held of it, by steps of other keys and of its own
module _ (layout : Layout) (w : World) (sound : IsSound layout w) where
  -- a new version is held nowhere
  pub issue_rows : (v : Version) → v.dot.counter ≡ w.counters v.dot.node v.key + 1 →
      (holder home : ℕ) (key : List ℕ) →
      IsSameRow (row_at w holder home key) (row_at (after_issue w v) holder home key)
  issue_rows v next holder home key u = (
    (λ h.
        let s = stands_from w holder home key u h in
        stands_in (after_issue w v) holder home key u
        (record {
          made = in_tail v u w.versions s.made;
          key_is = s.key_is;
          is_held = s.is_held;
        })),
    (λ h.
        let s = stands_from (after_issue w v) holder home key u h in
        stands_in w holder home key u
        (record {
          made =
              ⊎_elim
              (λ same.
              let dot_is : v.dot ≡ u.dot = ap (λ x. x.dot) (sym same) in
              let key_is : v.key ≡ key = ap (λ x. x.key) (sym same) ∙ s.key_is in
              absurd (not_held_yet layout w sound holder home v next
              ((λ i. w.holdings holder home (key_is i) (dot_is i)) ∙ s.is_held)))
              (λ older. older)
              (in_cases v u w.versions s.made);
          key_is = s.key_is;
          is_held = s.is_held;
        })),
  )

  -- an issue of another key
  pub issue_other : (v : Version) → v.dot.counter ≡ w.counters v.dot.node v.key + 1 →
      (key : List ℕ) → key ≢ v.key →
      (made : ℕ → List Version) (places : List Holding) → AreOfKey w key made places →
      AreOfKey (after_issue w v) key made places
  issue_other v next key apart made places are =
      record {
        made_are = λ node. are.made_are node ∙ sym (made_other w.versions key node v (not_by node));
        rows_are = λ holder home. same_row_on (row_in places holder home key)
            (row_at w holder home key) (row_at (after_issue w v) holder home key)
            (are.rows_are holder home) (issue_rows v next holder home key);
        in_order = are.in_order;
        of_key = are.of_key;
      }
    where
      not_by : (node : ℕ) → is_by v node key ≡ false
      not_by node = ⊎_elim (λ yes. absurd (apart (sym (by_parts v node key yes).1))) (λ no. no)
          (cases_Bool (is_by v node key))

  -- an issue of its own
  pub issue_own : (v : Version) → v.dot.counter ≡ w.counters v.dot.node v.key + 1 →
      (made : ℕ → List Version) (places : List Holding) → AreOfKey w v.key made places →
      (new : ℕ → List Version) → new v.dot.node ≡ made v.dot.node ++ v ∷ [] →
      ((node : ℕ) → node ≢ v.dot.node → new node ≡ made node) →
      AreOfKey (after_issue w v) v.key new places
  issue_own v next made places are new own others =
      record {
        made_are = λ node.
            ⊎_elim
            (λ by.
            let node_is = (by_parts v node v.key by).0 in
            ap new (sym node_is)
            ∙ (own ∙ (ap (λ n. made n ++ v ∷ []) node_is
            ∙ (ap (λ vs. vs ++ v ∷ []) (are.made_are node)
            ∙ sym (made_own w.versions v.key node v by)))))
            (λ not_by.
            others node (λ same. true≢false (sym (by_from v node v.key (sym same) refl) ∙ not_by))
            ∙ (are.made_are node ∙ sym (made_other w.versions v.key node v not_by)))
            (cases_Bool (is_by v node v.key));
        rows_are = λ holder home. same_row_on (row_in places holder home v.key)
            (row_at w holder home v.key) (row_at (after_issue w v) holder home v.key)
            (are.rows_are holder home) (issue_rows v next holder home v.key);
        in_order = are.in_order;
        of_key = are.of_key;
      }

  not_place : (holder home : ℕ) (key : List ℕ) (p o : ℕ) (k : List ℕ) → k ≢ key →
      same_place holder home key p o k ≡ false
  not_place holder home key p o k apart =
      ⊎_elim (λ yes. absurd (apart (place_is holder home key p o k yes).key_is)) (λ no. no)
      (cases_Bool (same_place holder home key p o k))

  -- a hold of another key
  pub hold_other : (holder home : ℕ) (row : Siblings) (key : List ℕ) → key ≢ row.key →
      (made : ℕ → List Version) (places : List Holding) → AreOfKey w key made places →
      AreOfKey (after_hold w holder home row) key made places
  hold_other holder home row key apart made places are =
      record {
        made_are = are.made_are;
        rows_are = λ p o. same_row_on (row_in places p o key) (row_at w p o key)
            (row_at (after_hold w holder home row) p o key)
            (are.rows_are p o) (hold_elsewhere w holder home row p o key
            (not_place holder home row.key p o key apart));
        in_order = are.in_order;
        of_key = are.of_key;
      }

  -- a hold of its own
  pub hold_own : (holder home : ℕ) (row : Siblings) → AreMadeOf w row.key row.versions →
      (made : ℕ → List Version) (places : List Holding) → AreOfKey w row.key made places →
      (h : Holding) → h.holder ≡ holder → h.home ≡ home → h.row.key ≡ row.key →
      IsSameRow h.row.versions (merge (row_in places holder home row.key) row.versions) →
      AreOfKey (after_hold w holder home row) row.key made (put holding_cmp places h)
  hold_own holder home row of_row made places are h holder_is home_is key_is merged =
      record {
        made_are = are.made_are;
        rows_are = λ p o.
            ⊎_elim
            (λ at.
            let s = spot_from p o row.key h at in
            subst (λ vs. IsSameRow vs (row_at (after_hold w holder home row) p o row.key))
            (sym (row_in-put p o row.key places h
            ∙ cond-true (is_at p o row.key h) h.row.versions (row_in places p o row.key) at))
            (subst (λ vs. IsSameRow h.row.versions vs)
            (λ i. row_at (after_hold w holder home row) ((sym holder_is ∙ s.holder_is) i)
            ((sym home_is ∙ s.home_is) i) row.key) here))
            (λ not_at.
            subst (λ vs. IsSameRow vs (row_at (after_hold w holder home row) p o row.key))
            (sym (row_in-put p o row.key places h
            ∙ cond-false (is_at p o row.key h) h.row.versions
            (row_in places p o row.key) not_at))
            (same_row_on (row_in places p o row.key) (row_at w p o row.key)
            (row_at (after_hold w holder home row) p o row.key)
            (are.rows_are p o) (hold_elsewhere w holder home row p o row.key
            (elsewhere p o not_at))))
            (cases_Bool (is_at p o row.key h));
        in_order = put_sorted holding_cmp holding_cmp_total places h are.in_order;
        of_key = all_from (λ x. x.row.key ≡ row.key) (put holding_cmp places h) (λ x inside.
            ⊎_elim (λ same. ap (λ y. y.row.key) same ∙ key_is)
            (λ older. All-contains (λ y. y.row.key ≡ row.key) places x are.of_key older)
            (put_cases holding_cmp places h x inside));
      }
    where
      fronts : IsSameRow (row_in places holder home row.key ++ row.versions)
          (row_at w holder home row.key ++ row.versions)
      fronts v = (
        (λ inside.
            ⊎_elim
            (λ l. Contains-append_left (row_at w holder home row.key) row.versions v
            ((are.rows_are holder home v).0 l))
            (λ r. Contains-append_right (row_at w holder home row.key) row.versions v r)
            (Contains-append_cases (row_in places holder home row.key) row.versions v inside)),
        (λ inside.
            ⊎_elim
            (λ l. Contains-append_left (row_in places holder home row.key) row.versions v
            ((are.rows_are holder home v).1 l))
            (λ r. Contains-append_right (row_in places holder home row.key) row.versions v r)
            (Contains-append_cases (row_at w holder home row.key) row.versions v inside)),
      )

      here : IsSameRow h.row.versions (row_at (after_hold w holder home row) holder home row.key)
      here =
          same_row_on h.row.versions (merge (row_in places holder home row.key) row.versions)
          (row_at (after_hold w holder home row) holder home row.key) merged
          (same_row_on (merge (row_in places holder home row.key) row.versions)
          (merge (row_at w holder home row.key) row.versions)
          (row_at (after_hold w holder home row) holder home row.key)
          (newest_same (row_in places holder home row.key ++ row.versions)
          (row_at w holder home row.key ++ row.versions) fronts)
          (hold_row w sound.ordered holder home row of_row))

      elsewhere : (p o : ℕ) → is_at p o row.key h ≡ false →
          same_place holder home row.key p o row.key ≡ false
      elsewhere p o not_at =
          ⊎_elim
          (λ yes.
          let place = place_is holder home row.key p o row.key yes in
          absurd (true≢false (sym
          (at_from p o row.key h
          (record {
            holder_is = holder_is ∙ sym place.holder_is;
            home_is = home_is ∙ sym place.home_is;
            key_is = key_is;
          })) ∙ not_at)))
          (λ no. no)
          (cases_Bool (same_place holder home row.key p o row.key))

  -- what is held there and what comes are one by dot
  pub agree_at : (holder home : ℕ) (row : Siblings) → AreMadeOf w row.key row.versions →
      (made : ℕ → List Version) (places : List Holding) → AreOfKey w row.key made places →
      AreOneByDot (row_in places holder home row.key ++ row.versions)
  agree_at holder home row of_row made places are u v in_u in_v dots =
      same_version w.versions sound.ordered u v (of u in_u).0 (of v in_v).0
      ((of u in_u).1 ∙ sym (of v in_v).1) dots
    where
      of : (x : Version) → Contains (row_in places holder home row.key ++ row.versions) x →
          Contains w.versions x × (x.key ≡ row.key)
      of x inside =
          ⊎_elim
          (λ l. let at = stands_from w holder home row.key x ((are.rows_are holder home x).0 l) in
          (at.made, at.key_is))
          (λ r. let m = All-contains (λ x. (x.key ≡ row.key) × Contains w.versions x) row.versions x
          of_row r in (m.1, m.0))
          (Contains-append_cases (row_in places holder home row.key) row.versions x inside)
