-- The lists of a world after a row was kept at a place, and after an ack.
use Rattle.std.proofs.Common.{◌≡◌, ℕ, ◌<◌, Bool, true, false, cond, ◌&&◌, not, ◌↔◌, List, [], ◌∷◌, ◌++◌, length, refl, sym, ap, ◌∙◌, subst, ⊎_elim, arith}
use Rattle.std.specs.List.{filter, All, Contains}
use Rattle.std.specs.List.Sorted.{IsStrictlySortedBy}
use Rattle.std.proofs.lemmas.Bool.{cases_Bool, and_parts, and_from, and_left, and_right, cond-true, cond-false, true≢false, not-true, not_from_false}
use Rattle.std.proofs.lemmas.List.Elements.{All-contains, All-filter, Contains-get_or, Contains-append_left, Contains-append_right, Contains-append_cases}
use Rattle.std.proofs.lemmas.List.Kept.{IsStrictlySortedBy-filter}
use Rattle.dy_dots.specs.Dots.{same_dot}
use Rattle.dy_siblings.specs.Siblings.{Siblings, IsSameRow, has_dot, newest, merge}
use Rattle.dy_core.specs.Worlds.{World, AreMadeOf, row_at}
use Rattle.dy_core.specs.Steps.{same_place, after_hold, after_release}
use Rattle.dy_core.specs.inside.Meanings.{Meets, is_at, is_nothing, others, kept, row_in}
use Rattle.dy_core.specs.Orders.{holding_cmp, ack_cmp, put}
use Rattle.dy_dots.specs.declared.dots.Dot.{Dot}
use Rattle.dy_siblings.specs.declared.versions.Version.{Version}
use Rattle.dy_core.specs.declared.acks.Acked.{Acked}
use Rattle.dy_core.specs.declared.holdings.Holding.{Holding}
use Rattle.dy_siblings.proofs.Members.{in_head, in_tail, in_cases, any_gives, any_from, filter_in, filter_from}
use Rattle.dy_dots.proofs.SameDots.{same_dot_is, same_dot_self}
use Rattle.dy_core.proofs.Ordered.{IsOrdered, same_version}
use Rattle.dy_core.proofs.Standing.{stands_from, stands_in, AreOf-held, place_is}
use Rattle.dy_core.proofs.Merging.{newest_same, newest_from, same_row_on}
use Rattle.dy_core.proofs.Putting.{put_cases, put_has, put_keeps, put_sorted}
use Rattle.dy_core.proofs.Held.{Spot, spot_from, at_from, row_in-put, row_in-others, holding_cmp_total, ack_cmp_total, acks_tie}

-- what is so of each member is so of all
pub all_from : {X : Type 0} (P : X → Type 0) (xs : List X) → ((x : X) → Contains xs x → P x) → All P xs
all_from P xs each = λ k d lt. each _ (Contains-get_or xs k d lt)

nothing_is : (vs : List Version) → is_nothing vs ≡ true → vs ≡ []
nothing_is [] e = refl
nothing_is (v ∷ vs) e = absurd (true≢false (sym e))

something_is : (vs : List Version) → is_nothing vs ≡ false → 0 < length vs
something_is [] e = absurd (true≢false e)
something_is (v ∷ vs) e = omega arith

own_spot : (h : Holding) → Spot h.holder h.home h.row.key h
own_spot h = record { holder_is = refl; home_is = refl; key_is = refl }

-- the rows of the holdings with one kept
pub row_in-kept : (hs : List Holding) (h : Holding) (p o : ℕ) (k : List ℕ) → row_in (kept hs h) p o k ≡ cond (is_at p o k h) h.row.versions (row_in hs p o k)
row_in-kept hs h p o k = go (is_nothing h.row.versions) refl
  where
    go : (b : Bool) → is_nothing h.row.versions ≡ b →
        row_in (cond b (others h.holder h.home h.row.key hs) (put holding_cmp hs h)) p o k ≡ cond (is_at p o k h) h.row.versions (row_in hs p o k)
    go true is =
        row_in-others h.holder h.home h.row.key hs p o k h (own_spot h)
        ∙ ap (λ vs. cond (is_at p o k h) vs (row_in hs p o k)) (sym (nothing_is h.row.versions is))
    go false is = row_in-put p o k hs h

kept_sorted : (hs : List Holding) (h : Holding) → IsStrictlySortedBy holding_cmp hs → IsStrictlySortedBy holding_cmp (kept hs h)
kept_sorted hs h sorted = go (is_nothing h.row.versions)
  where
    go : (b : Bool) → IsStrictlySortedBy holding_cmp (cond b (others h.holder h.home h.row.key hs) (put holding_cmp hs h))
    go true = IsStrictlySortedBy-filter holding_cmp (λ x. not (is_at h.holder h.home h.row.key x)) hs sorted
    go false = put_sorted holding_cmp holding_cmp_total hs h sorted

kept_some : (hs : List Holding) (h : Holding) → All (λ x. 0 < length x.row.versions) hs → All (λ x. 0 < length x.row.versions) (kept hs h)
kept_some hs h all = go (is_nothing h.row.versions) refl
  where
    go : (b : Bool) → is_nothing h.row.versions ≡ b →
        All (λ x. 0 < length x.row.versions) (cond b (others h.holder h.home h.row.key hs) (put holding_cmp hs h))
    go true is = All-filter (λ x. not (is_at h.holder h.home h.row.key x)) (λ x. 0 < length x.row.versions) hs all
    go false is =
        all_from (λ x. 0 < length x.row.versions) (put holding_cmp hs h)
        (λ x inside.
        ⊎_elim (λ same. subst (λ y. 0 < length y.row.versions) (sym same) (something_is h.row.versions is))
        (λ older. All-contains (λ y. 0 < length y.row.versions) hs x all older)
        (put_cases holding_cmp hs h x inside))

-- a world that differs from another in the row at one place alone
pub meets_kept : (w x : World) (versions : List Version) (held : List Holding) (acked : List Acked) → Meets w versions held acked →
    (h : Holding) → x.versions ≡ w.versions → x.acks ≡ w.acks → IsSameRow h.row.versions (row_at x h.holder h.home h.row.key) →
    ((p o : ℕ) (k : List ℕ) → is_at p o k h ≡ false → IsSameRow (row_at w p o k) (row_at x p o k)) →
    Meets x versions (kept held h) acked
meets_kept w x versions held acked meets h versions_same acks_same here elsewhere =
    record {
      versions_are = subst (IsSameRow versions) (sym versions_same) meets.versions_are;
      rows_are = λ p o k.
          ⊎_elim
          (λ at.
          let s = spot_from p o k h at in
          subst (λ vs. IsSameRow vs (row_at x p o k))
          (sym (row_in-kept held h p o k ∙ cond-true (is_at p o k h) h.row.versions (row_in held p o k) at))
          (subst (λ vs. IsSameRow h.row.versions vs) (λ i. row_at x (s.holder_is i) (s.home_is i) (s.key_is i)) here))
          (λ not_at.
          subst (λ vs. IsSameRow vs (row_at x p o k))
          (sym (row_in-kept held h p o k ∙ cond-false (is_at p o k h) h.row.versions (row_in held p o k) not_at))
          (same_row_on (row_in held p o k) (row_at w p o k) (row_at x p o k) (meets.rows_are p o k) (elsewhere p o k not_at)))
          (cases_Bool (is_at p o k h));
      none_empty = kept_some held h meets.none_empty;
      held_in_order = kept_sorted held h meets.held_in_order;
      acks_are = λ a. subst (λ bs. Contains acked a ↔ Contains bs a) (sym acks_same) (meets.acks_are a);
      acks_in_order = meets.acks_in_order;
    }

-- the two tests of a place
not_here : (h : Holding) (p o : ℕ) (k : List ℕ) → is_at p o k h ≡ false → same_place h.holder h.home h.row.key p o k ≡ false
not_here h p o k not_at =
    ⊎_elim
    (λ yes.
    let place = place_is h.holder h.home h.row.key p o k yes in
    absurd (true≢false (sym (at_from p o k h (record { holder_is = sym place.holder_is; home_is = sym place.home_is; key_is = sym place.key_is })) ∙ not_at)))
    (λ no. no)
    (cases_Bool (same_place h.holder h.home h.row.key p o k))

self_place : (holder home : ℕ) (key : List ℕ) → same_place holder home key holder home key ≡ true
self_place holder home key = at_from holder home key here (own_spot here)
  where
    here : Holding
    here = record { holder = holder; home = home; row = record { key = key; versions = [] } }

module _ (w : World) (ordered : IsOrdered w.versions) (holder home : ℕ) (row : Siblings) (made : AreMadeOf w row.key row.versions) where
  both : List Version
  both = row_at w holder home row.key ++ row.versions

  -- after a hold the row at the place is the merge
  pub hold_row : IsSameRow (merge (row_at w holder home row.key) row.versions) (row_at (after_hold w holder home row) holder home row.key)
  unfolding both
  hold_row v = (
    (λ h.
        let of = AreOf-held w holder home row made v (newest_from both v h).0 in
        stands_in (after_hold w holder home row) holder home row.key v
        (record {
          made = of.0;
          key_is = of.1;
          is_held =
              cond-true (same_place holder home row.key holder home row.key) (has_dot (newest both) v.dot) (w.holdings holder home row.key v.dot)
              (self_place holder home row.key)
              ∙ any_from (λ u. same_dot u.dot v.dot) (newest both) v h (same_dot_self v.dot);
        })),
    (λ h.
        let s = stands_from (after_hold w holder home row) holder home row.key v h in
        let top = any_gives (λ u. same_dot u.dot v.dot) (newest both)
        (sym (cond-true (same_place holder home row.key holder home row.key) (has_dot (newest both) v.dot) (w.holdings holder home row.key v.dot)
        (self_place holder home row.key)) ∙ s.is_held) in
        let of = AreOf-held w holder home row made top.item (newest_from both top.item top.in_list).0 in
        let same = same_version w.versions ordered top.item v of.0 s.made (of.1 ∙ sym s.key_is) (same_dot_is top.item.dot v.dot top.passes) in
        subst (Contains (newest both)) same top.in_list),
  )

-- a hold changes no other row
pub hold_elsewhere : (w : World) (holder home : ℕ) (row : Siblings) (p o : ℕ) (k : List ℕ) → same_place holder home row.key p o k ≡ false →
    IsSameRow (row_at w p o k) (row_at (after_hold w holder home row) p o k)
hold_elsewhere w holder home row p o k not_at v =
    let is : (after_hold w holder home row).holdings p o k v.dot ≡ w.holdings p o k v.dot =
    cond-false (same_place holder home row.key p o k) (has_dot (merge (row_at w holder home row.key) row.versions) v.dot) (w.holdings p o k v.dot) not_at in (
      (λ h.
          let s = stands_from w p o k v h in
          stands_in (after_hold w holder home row) p o k v (record { made = s.made; key_is = s.key_is; is_held = is ∙ s.is_held })),
      (λ h.
          let s = stands_from (after_hold w holder home row) p o k v h in
          stands_in w p o k v (record { made = s.made; key_is = s.key_is; is_held = sym is ∙ s.is_held })),
    )

pub meets_hold : (w : World) → IsOrdered w.versions → (versions : List Version) (held : List Holding) (acked : List Acked) → Meets w versions held acked →
    (holder home : ℕ) (row : Siblings) → AreMadeOf w row.key row.versions → (new : Siblings) → new.key ≡ row.key →
    IsSameRow new.versions (merge (row_in held holder home row.key) row.versions) →
    Meets (after_hold w holder home row) versions (kept held (record { holder = holder; home = home; row = new })) acked
meets_hold w ordered versions held acked meets holder home row made new key_is merged =
    meets_kept w (after_hold w holder home row) versions held acked meets h refl refl
    (subst (λ k. IsSameRow new.versions (row_at (after_hold w holder home row) holder home k)) (sym key_is)
    (same_row_on new.versions (merge (row_in held holder home row.key) row.versions) (row_at (after_hold w holder home row) holder home row.key) merged
    (same_row_on (merge (row_in held holder home row.key) row.versions) (merge (row_at w holder home row.key) row.versions)
    (row_at (after_hold w holder home row) holder home row.key)
    (newest_same (row_in held holder home row.key ++ row.versions) (row_at w holder home row.key ++ row.versions) fronts)
    (hold_row w ordered holder home row made))))
    (λ p o k not_at. hold_elsewhere w holder home row p o k (subst (λ j. same_place holder home j p o k ≡ false) key_is (not_here h p o k not_at)))
  where
    h : Holding
    h = record { holder = holder; home = home; row = new }

    fronts : IsSameRow (row_in held holder home row.key ++ row.versions) (row_at w holder home row.key ++ row.versions)
    fronts v = (
      (λ inside.
          ⊎_elim
          (λ l. Contains-append_left (row_at w holder home row.key) row.versions v ((meets.rows_are holder home row.key v).0 l))
          (λ r. Contains-append_right (row_at w holder home row.key) row.versions v r)
          (Contains-append_cases (row_in held holder home row.key) row.versions v inside)),
      (λ inside.
          ⊎_elim
          (λ l. Contains-append_left (row_in held holder home row.key) row.versions v ((meets.rows_are holder home row.key v).1 l))
          (λ r. Contains-append_right (row_in held holder home row.key) row.versions v r)
          (Contains-append_cases (row_at w holder home row.key) row.versions v inside)),
    )

-- the versions but that of the dot
abbrev pub but : List Version → Dot → List Version
but vs d = filter (λ v. not (same_dot v.dot d)) vs

-- after a release the place has its row without the dot
pub release_row : (w : World) (holder home : ℕ) (key : List ℕ) (d : Dot) →
    IsSameRow (row_at (after_release w holder home key d) holder home key) (but (row_at w holder home key) d)
release_row w holder home key d v = (
  (λ inside.
      let s = stands_from (after_release w holder home key d) holder home key v inside in
      let parts = and_parts (w.holdings holder home key v.dot) (not (same_place holder home key holder home key && same_dot v.dot d)) s.is_held in
      filter_in (λ u. not (same_dot u.dot d)) (row_at w holder home key) v
      (stands_in w holder home key v (record { made = s.made; key_is = s.key_is; is_held = parts.0 }))
      (ap (λ b. not (b && same_dot v.dot d)) (sym (self_place holder home key)) ∙ parts.1)),
  (λ inside.
      let f = filter_from (λ u. not (same_dot u.dot d)) (row_at w holder home key) v inside in
      let s = stands_from w holder home key v f.0 in
      stands_in (after_release w holder home key d) holder home key v
      (record {
        made = s.made;
        key_is = s.key_is;
        is_held =
            and_from (w.holdings holder home key v.dot) (not (same_place holder home key holder home key && same_dot v.dot d)) s.is_held
            (not_from_false (same_place holder home key holder home key && same_dot v.dot d)
            (and_right (same_place holder home key holder home key) (same_dot v.dot d) (not-true (same_dot v.dot d) f.1)));
      })),
)

-- a release changes no other row
pub release_elsewhere : (w : World) (holder home : ℕ) (key : List ℕ) (d : Dot) (p o : ℕ) (k : List ℕ) → same_place holder home key p o k ≡ false →
    IsSameRow (row_at (after_release w holder home key d) p o k) (row_at w p o k)
release_elsewhere w holder home key d p o k not_at v = (
  (λ inside.
      let s = stands_from (after_release w holder home key d) p o k v inside in
      stands_in w p o k v
      (record {
        made = s.made;
        key_is = s.key_is;
        is_held = (and_parts (w.holdings p o k v.dot) (not (same_place holder home key p o k && same_dot v.dot d)) s.is_held).0;
      })),
  (λ inside.
      let s = stands_from w p o k v inside in
      stands_in (after_release w holder home key d) p o k v
      (record {
        made = s.made;
        key_is = s.key_is;
        is_held =
            and_from (w.holdings p o k v.dot) (not (same_place holder home key p o k && same_dot v.dot d)) s.is_held
            (not_from_false (same_place holder home key p o k && same_dot v.dot d) (and_left (same_place holder home key p o k) (same_dot v.dot d) not_at));
      })),
)

pub meets_release : (w : World) (versions : List Version) (held : List Holding) (acked : List Acked) → Meets w versions held acked →
    (holder home : ℕ) (key : List ℕ) (d : Dot) (new : Siblings) → new.key ≡ key → new.versions ≡ but (row_in held holder home key) d →
    Meets (after_release w holder home key d) versions (kept held (record { holder = holder; home = home; row = new })) acked
meets_release w versions held acked meets holder home key d new key_is left =
    meets_kept w (after_release w holder home key d) versions held acked meets h refl refl
    (subst (λ k. IsSameRow new.versions (row_at (after_release w holder home key d) holder home k)) (sym key_is)
    (subst (λ vs. IsSameRow vs (row_at (after_release w holder home key d) holder home key)) (sym left) here))
    (λ p o k not_at. elsewhere p o k (subst (λ j. same_place holder home j p o k ≡ false) key_is (not_here h p o k not_at)))
  where
    h : Holding
    h = record { holder = holder; home = home; row = new }

    here : IsSameRow (but (row_in held holder home key) d) (row_at (after_release w holder home key d) holder home key)
    here v = (
      (λ inside.
          let f = filter_from (λ u. not (same_dot u.dot d)) (row_in held holder home key) v inside in
          let s = stands_from w holder home key v ((meets.rows_are holder home key v).0 f.0) in
          stands_in (after_release w holder home key d) holder home key v
          (record {
            made = s.made;
            key_is = s.key_is;
            is_held =
                and_from (w.holdings holder home key v.dot) (not (same_place holder home key holder home key && same_dot v.dot d)) s.is_held
                (not_from_false (same_place holder home key holder home key && same_dot v.dot d)
                (and_right (same_place holder home key holder home key) (same_dot v.dot d) (not-true (same_dot v.dot d) f.1)));
          })),
      (λ inside.
          let s = stands_from (after_release w holder home key d) holder home key v inside in
          let parts = and_parts (w.holdings holder home key v.dot) (not (same_place holder home key holder home key && same_dot v.dot d)) s.is_held in
          filter_in (λ u. not (same_dot u.dot d)) (row_in held holder home key) v
          ((meets.rows_are holder home key v).1 (stands_in w holder home key v (record { made = s.made; key_is = s.key_is; is_held = parts.0 })))
          (ap (λ b. not (b && same_dot v.dot d)) (sym (self_place holder home key)) ∙ parts.1)),
    )

    elsewhere : (p o : ℕ) (k : List ℕ) → same_place holder home key p o k ≡ false →
        IsSameRow (row_at w p o k) (row_at (after_release w holder home key d) p o k)
    elsewhere p o k not_at v = (
      (λ inside.
          let s = stands_from w p o k v inside in
          stands_in (after_release w holder home key d) p o k v
          (record {
            made = s.made;
            key_is = s.key_is;
            is_held =
                and_from (w.holdings p o k v.dot) (not (same_place holder home key p o k && same_dot v.dot d)) s.is_held
                (not_from_false (same_place holder home key p o k && same_dot v.dot d) (and_left (same_place holder home key p o k) (same_dot v.dot d) not_at));
          })),
      (λ inside.
          let s = stands_from (after_release w holder home key d) p o k v inside in
          stands_in w p o k v
          (record {
            made = s.made;
            key_is = s.key_is;
            is_held = (and_parts (w.holdings p o k v.dot) (not (same_place holder home key p o k && same_dot v.dot d)) s.is_held).0;
          })),
    )

pub meets_ack : (w : World) (versions : List Version) (held : List Holding) (acked : List Acked) → Meets w versions held acked → (a : Acked) →
    Meets (record w { acks = a ∷ w.acks }) versions held (put ack_cmp acked a)
meets_ack w versions held acked meets a =
    record {
      versions_are = meets.versions_are;
      rows_are = meets.rows_are;
      none_empty = meets.none_empty;
      held_in_order = meets.held_in_order;
      acks_are = λ b. (
        (λ h.
            ⊎_elim (λ same. subst (Contains (a ∷ w.acks)) (sym same) (in_head a w.acks))
            (λ older. in_tail a b w.acks ((meets.acks_are b).0 older))
            (put_cases ack_cmp acked a b h)),
        (λ h.
            ⊎_elim (λ same. subst (Contains (put ack_cmp acked a)) (sym same) (put_has ack_cmp acked a))
            (λ older. put_keeps ack_cmp acks_tie acked a b ((meets.acks_are b).1 older))
            (in_cases a b w.acks h)),
      );
      acks_in_order = put_sorted ack_cmp ack_cmp_total acked a meets.acks_in_order;
    }
