-- What a node's own steps show is what the world holds at the node.
use Rattle.std.proofs.Common.{◌≡◌, ℕ, ◌+◌, ◌==◌, Bool, ◌&&◌, not, true, false, true≢false, cond, List, [], ◌∷◌, ◌++◌, filter, Option, Some, refl, sym, ap, ◌∙◌, subst, ⊎_elim}
use Rattle.std.specs.List.{All, Contains}
use Rattle.std.proofs.lemmas.Bool.{and_parts, cases_Bool, eqb-true, eq-eqb}
use Rattle.std.proofs.lemmas.List.Elements.{All-contains, Contains-append_left, Contains-append_right, Contains-append_cases}
use Rattle.dy_dots.specs.Dots.{DotSet, same_dot}
use Rattle.dy_dots.specs.declared.dots.Dot.{Dot}
use Rattle.dy_siblings.specs.Siblings.{Siblings, same_key, has_dot, merge, IsSameRow}
use Rattle.dy_siblings.specs.declared.versions.Version.{Version}
use Rattle.dy_core.specs.Worlds.{Layout, World, empty_world, row_at}
use Rattle.dy_core.specs.Steps.{IsAllowed, place_for, world_after_step, same_place, version_made, after_issue, after_hold, after_release}
use Rattle.dy_core.specs.Logs.{world_from, world_after, IsLegalFrom, IsLegal}
use Rattle.dy_core.specs.declared.steps.Step.{Step}
use Rattle.dy_core.specs.declared.steps.Step.TheVariants.{Issue, Hold, Release, Fetch, Ack}
use Rattle.dy_siblings.proofs.Members.{any_gives, any_from, filter_from, in_tail}
use Rattle.dy_dots.proofs.SameDots.{same_dot_is}
use Rattle.dy_core.proofs.Ordered.{same_version}
use Rattle.dy_core.proofs.Standing.{stands_from, stands_in, place_is}
use Rattle.dy_core.proofs.Merging.{newest_same}
use Rattle.dy_core.proofs.Kept.{IsSound, empty_sound, step_sound}
use Rattle.dy_core.proofs.OverLogs.{log_sound}
use Rattle.dy_shares.specs.Shares.{names, node_of, node_part, shown_after_step, shown_from, BelongsTo, NodePart}

-- a version of the key and the dot that came along
pub record IsBrought (vs : List Version) (key : List ℕ) (d : Dot) : Type 0 where
  pub version : Version
  pub in_list : Contains vs version
  pub key_is : version.key ≡ key
  pub dot_is : version.dot ≡ d

-- what is shown of a node is so in the world
pub record IsShown (i : ℕ) (v w : World) : Type 0 where
  pub holdings : (home : ℕ) (key : List ℕ) (d : Dot) → v.holdings i home key d ≡ w.holdings i home key d
  pub counters : (key : List ℕ) → v.counters i key ≡ w.counters i key
  pub made : (x : Version) → Contains v.versions x → Contains w.versions x
  pub brought : (home : ℕ) (key : List ℕ) (d : Dot) → v.holdings i home key d ≡ true → IsBrought v.versions key d

same_both : (a b : Bool) → (a ≡ true → b ≡ true) → (b ≡ true → a ≡ true) → a ≡ b
same_both true b f g = sym (f refl)
same_both false true f g = g refl
same_both false false f g = refl

-- the same versions have the same dots
same_dots : (xs ys : List Version) → IsSameRow xs ys → (d : Dot) → has_dot xs d ≡ has_dot ys d
same_dots xs ys same d =
    same_both (has_dot xs d) (has_dot ys d)
    (λ e. let t = any_gives (λ v. same_dot v.dot d) xs e in any_from (λ v. same_dot v.dot d) ys t.item ((same t.item).0 t.in_list) t.passes)
    (λ e. let t = any_gives (λ v. same_dot v.dot d) ys e in any_from (λ v. same_dot v.dot d) xs t.item ((same t.item).1 t.in_list) t.passes)

same_merge : (xs ys zs : List Version) → IsSameRow xs ys → IsSameRow (merge xs zs) (merge ys zs)
same_merge xs ys zs same = newest_same (xs ++ zs) (ys ++ zs) (λ v. (over xs ys (λ u. (same u).0) v, over ys xs (λ u. (same u).1) v))
  where
    over : (ps qs : List Version) → ((u : Version) → Contains ps u → Contains qs u) → (v : Version) → Contains (ps ++ zs) v → Contains (qs ++ zs) v
    over ps qs f v h = ⊎_elim (λ l. Contains-append_left qs zs v (f v l)) (λ r. Contains-append_right qs zs v r) (Contains-append_cases ps zs v h)

-- a node that is named is the one, and one that is not named is another
named_is : (i n : ℕ) → names i (Some n) ≡ true → n ≡ i
named_is i n e = eqb-true n i e

not_named : (i n : ℕ) → names i (Some n) ≡ false → (i == n) ≡ false
not_named i n e = ⊎_elim (λ yes. absurd (true≢false (sym (eq-eqb n i (sym (eqb-true i n yes))) ∙ e))) (λ no. no) (cases_Bool (i == n))

and_false : (a b : Bool) → a ≡ false → (a && b) ≡ false
and_false a b e = ap (λ x. x && b) e

and_not_false : (a b : Bool) → b ≡ false → (a && not b) ≡ a
and_not_false true b e = ap not e
and_not_false false b e = refl

module _ (layout : Layout) (i : ℕ) (v w : World) (sound : IsSound layout w) (is : IsShown i v w) where
  -- where no own step was made, the world keeps what it holds at the node
  other_issue : (node : ℕ) (key : List ℕ) (context : DotSet) (value : Option (List ℕ)) → (i == node) ≡ false → IsShown i v (after_issue w (version_made w node key context value))
  other_issue node key context value apart =
      record {
        holdings = is.holdings;
        counters = λ k. is.counters k ∙ sym (ap (λ b. cond b (w.counters node key + 1) (w.counters i k)) (and_false (i == node) (same_key k key) apart));
        made = λ x h. in_tail (version_made w node key context value) x w.versions (is.made x h);
        brought = is.brought;
      }

  other_hold : (holder home : ℕ) (row : Siblings) → (i == holder) ≡ false → IsShown i v (after_hold w holder home row)
  other_hold holder home row apart =
      record {
        holdings = λ o k d. is.holdings o k d
            ∙ sym (ap (λ b. cond b (has_dot (merge (row_at w holder home row.key) row.versions) d) (w.holdings i o k d)) (and_false (i == holder) ((o == home) && same_key k row.key) apart));
        counters = is.counters;
        made = is.made;
        brought = is.brought;
      }

  other_release : (holder home : ℕ) (key : List ℕ) (e : Dot) → (i == holder) ≡ false → IsShown i v (after_release w holder home key e)
  other_release holder home key e apart =
      record {
        holdings = λ o k d. is.holdings o k d
            ∙ sym (and_not_false (w.holdings i o k d) (same_place holder home key i o k && same_dot d e)
            (and_false (same_place holder home key i o k) (same_dot d e) (and_false (i == holder) ((o == home) && same_key k key) apart)));
        counters = is.counters;
        made = is.made;
        brought = is.brought;
      }

  -- an own issue counts on, in both
  own_issue : (key : List ℕ) (context : DotSet) (value : Option (List ℕ)) → IsShown i (shown_after_step v (Issue i key context value)) (after_issue w (version_made w i key context value))
  own_issue key context value =
      record {
        holdings = is.holdings;
        counters = λ k. (λ j. cond ((i == i) && same_key k key) (is.counters key j + 1) (is.counters k j));
        made = λ x h. in_tail (version_made w i key context value) x w.versions (is.made x h);
        brought = is.brought;
      }

  own_release : (home : ℕ) (key : List ℕ) (e : Dot) → IsShown i (after_release v i home key e) (after_release w i home key e)
  own_release home key e =
      record {
        holdings = λ o k d. ap (λ b. b && not (same_place i home key i o k && same_dot d e)) (is.holdings o k d);
        counters = is.counters;
        made = is.made;
        brought = λ o k d h. is.brought o k d (and_parts (v.holdings i o k d) (not (same_place i home key i o k && same_dot d e)) h).0;
      }

  -- an own hold brings its versions along, so what was held there is the same row in both
  module _ (home : ℕ) (row : Siblings) (of_row : All (λ x. (x.key ≡ row.key) × Contains w.versions x) row.versions) where
    abbrev more : World
    more = record v { versions = row.versions ++ v.versions }

    made_more : (x : Version) → Contains (row.versions ++ v.versions) x → Contains w.versions x
    made_more x h =
        ⊎_elim
        (λ new. (All-contains (λ y. (y.key ≡ row.key) × Contains w.versions y) row.versions x of_row new).1)
        (λ old. is.made x old)
        (Contains-append_cases row.versions v.versions x h)

    brought_more : (o : ℕ) (k : List ℕ) (d : Dot) → v.holdings i o k d ≡ true → IsBrought (row.versions ++ v.versions) k d
    brought_more o k d h =
        let b = is.brought o k d h in
        record { version = b.version; in_list = Contains-append_right row.versions v.versions b.version b.in_list; key_is = b.key_is; dot_is = b.dot_is }

    same_row : IsSameRow (row_at more i home row.key) (row_at w i home row.key)
    same_row x = (
      (λ h.
          let s = stands_from more i home row.key x h in
          stands_in w i home row.key x (record { made = made_more x s.made; key_is = s.key_is; is_held = sym (is.holdings home row.key x.dot) ∙ s.is_held })),
      (λ h.
          let s = stands_from w i home row.key x h in
          let held : v.holdings i home row.key x.dot ≡ true = is.holdings home row.key x.dot ∙ s.is_held in
          let b = brought_more home row.key x.dot held in
          let same = same_version w.versions sound.ordered b.version x (made_more b.version b.in_list) s.made (b.key_is ∙ sym s.key_is) b.dot_is in
          stands_in more i home row.key x (record { made = subst (Contains (row.versions ++ v.versions)) same b.in_list; key_is = s.key_is; is_held = held })),
    )

    brought_there : (o : ℕ) (k : List ℕ) (d : Dot) (b : Bool) → same_place i home row.key i o k ≡ b →
        cond b (has_dot (merge (row_at more i home row.key) row.versions) d) (v.holdings i o k d) ≡ true → IsBrought (row.versions ++ v.versions) k d
    brought_there o k d false there h = brought_more o k d h
    brought_there o k d true there h =
        let place = place_is i home row.key i o k there in
        let top = any_gives (λ x. same_dot x.dot d) (merge (row_at more i home row.key) row.versions) h in
        let both = row_at more i home row.key ++ row.versions in
        let from = (filter_from _ both top.item top.in_list).0 in
        let of : Contains (row.versions ++ v.versions) top.item × (top.item.key ≡ row.key) =
        ⊎_elim
        (λ l. let s = stands_from more i home row.key top.item l in (s.made, s.key_is))
        (λ r. (Contains-append_left row.versions v.versions top.item r, (All-contains (λ y. (y.key ≡ row.key) × Contains w.versions y) row.versions top.item of_row r).0))
        (Contains-append_cases (row_at more i home row.key) row.versions top.item from) in
        record { version = top.item; in_list = of.0; key_is = of.1 ∙ sym place.key_is; dot_is = same_dot_is top.item.dot d top.passes }

    own_hold : IsShown i (after_hold more i home row) (after_hold w i home row)
    own_hold =
        record {
          holdings = λ o k d j. cond (same_place i home row.key i o k)
              (same_dots (merge (row_at more i home row.key) row.versions) (merge (row_at w i home row.key) row.versions)
              (same_merge (row_at more i home row.key) (row_at w i home row.key) row.versions same_row) d j)
              (is.holdings o k d j);
          counters = is.counters;
          made = made_more;
          brought = λ o k d h. brought_there o k d (same_place i home row.key i o k) refl h;
        }

  own_step : (s : Step) → IsAllowed layout w s → names i (node_of s) ≡ true → IsShown i (shown_after_step v s) (world_after_step w s)
  own_step (Issue node key context value) a e =
      subst (λ n. IsShown i (shown_after_step v (Issue n key context value)) (world_after_step w (Issue n key context value))) (sym (named_is i node e)) (own_issue key context value)
  own_step (Hold p row) a e =
      subst (λ n. IsShown i (shown_after_step v (Hold (place_for n p.home) row)) (world_after_step w (Hold (place_for n p.home) row))) (sym (named_is i p.holder e)) (own_hold p.home row a.1)
  own_step (Release p key d) a e =
      subst (λ n. IsShown i (shown_after_step v (Release (place_for n p.home) key d)) (world_after_step w (Release (place_for n p.home) key d))) (sym (named_is i p.holder e)) (own_release p.home key d)
  own_step (Fetch p key) a e = absurd (true≢false (sym e))
  own_step (Ack key d n) a e = absurd (true≢false (sym e))

  other_step : (s : Step) → names i (node_of s) ≡ false → IsShown i v (world_after_step w s)
  other_step (Issue node key context value) e = other_issue node key context value (not_named i node e)
  other_step (Hold p row) e = other_hold p.holder p.home row (not_named i p.holder e)
  other_step (Release p key d) e = other_release p.holder p.home key d (not_named i p.holder e)
  other_step (Fetch p key) e = is
  other_step (Ack key d n) e = record { holdings = is.holdings; counters = is.counters; made = is.made; brought = is.brought }

shown_by : (layout : Layout) (i : ℕ) (v w : World) → IsSound layout w → IsShown i v w → (ss : List Step) → IsLegalFrom layout w ss
    → IsShown i (shown_from v (filter (λ s. names i (node_of s)) ss)) (world_from w ss)
shown_by layout i v w sound is [] legal = is
shown_by layout i v w sound is (s ∷ ss) legal =
    by_test (names i (node_of s)) refl
    (λ e. shown_by layout i (shown_after_step v s) (world_after_step w s) (step_sound layout w sound s legal.0) (own_step layout i v w sound is s legal.0 e) ss legal.1)
    (λ e. shown_by layout i v (world_after_step w s) (step_sound layout w sound s legal.0) (other_step layout i v w sound is s e) ss legal.1)
  where
    by_test : (b : Bool) → names i (node_of s) ≡ b
        → (names i (node_of s) ≡ true → IsShown i (shown_from (shown_after_step v s) (filter (λ x. names i (node_of x)) ss)) (world_from (world_after_step w s) ss))
        → (names i (node_of s) ≡ false → IsShown i (shown_from v (filter (λ x. names i (node_of x)) ss)) (world_from (world_after_step w s) ss))
        → IsShown i (shown_from v (cond b (s ∷ filter (λ x. names i (node_of x)) ss) (filter (λ x. names i (node_of x)) ss))) (world_from (world_after_step w s) ss)
    by_test true is_own if_own if_other = if_own is_own
    by_test false is_other if_own if_other = if_other is_other

-- a node's part of a legal log shows what the world after it holds at the node
pub part_shows : (layout : Layout) (i : ℕ) (ss : List Step) → IsLegal layout ss → IsShown i (shown_from empty_world (node_part i ss).steps) (world_after ss)
part_shows layout i ss legal =
    shown_by layout i empty_world empty_world (empty_sound layout)
    (record {
      holdings = λ o k d. refl;
      counters = λ k. refl;
      made = λ x h. h;
      brought = λ o k d h. absurd (true≢false (sym h));
    }) ss legal

-- so it shows the same rows, too
rows_shown : (layout : Layout) (i : ℕ) (v w : World) → IsSound layout w → IsShown i v w → (home : ℕ) (key : List ℕ) → IsSameRow (row_at v i home key) (row_at w i home key)
rows_shown layout i v w sound is home key x = (
  (λ h.
      let s = stands_from v i home key x h in
      stands_in w i home key x (record { made = is.made x s.made; key_is = s.key_is; is_held = sym (is.holdings home key x.dot) ∙ s.is_held })),
  (λ h.
      let s = stands_from w i home key x h in
      let held : v.holdings i home key x.dot ≡ true = is.holdings home key x.dot ∙ s.is_held in
      let b = is.brought home key x.dot held in
      let same = same_version w.versions sound.ordered b.version x (is.made b.version b.in_list) s.made (b.key_is ∙ sym s.key_is) b.dot_is in
      stands_in v i home key x (record { made = subst (Contains v.versions) same b.in_list; key_is = s.key_is; is_held = held })),
)

-- a node's own steps belong to the log
pub part_belongs : (layout : Layout) (p : NodePart) (ss : List Step) → IsLegal layout ss → p.steps ≡ filter (λ s. names p.node (node_of s)) ss → BelongsTo ss p
part_belongs layout p ss legal is =
    let shown = subst (λ own. IsShown p.node (shown_from empty_world own) (world_after ss)) (sym is) (part_shows layout p.node ss legal) in
    record {
      part_is = ap (λ own. record { node = p.node; steps = own }) is;
      shows_holdings = shown.holdings;
      shows_counters = shown.counters;
      shows_rows = rows_shown layout p.node (shown_from empty_world p.steps) (world_after ss) (log_sound layout ss legal) shown;
    }
