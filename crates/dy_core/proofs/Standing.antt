-- What is held at a place, and how a step changes it.
use Rattle.std.proofs.Common.{◌≡◌, ◌≢◌, ℕ, true, false, ◌&&◌, not, eqb, List, ◌++◌, ◌⊎◌, sym, ap, ◌∙◌, inl, inr, ⊎_elim}
use Rattle.std.specs.List.{All, Contains}
use Rattle.std.specs.FinSet as set
use Rattle.std.proofs.lemmas.Bool.{cases_Bool, or_cases, or_right, and_parts, and_from, and_left, and_right, not_from_false, eqb-true, cond-true, cond-false}
use Rattle.std.proofs.lemmas.List.Elements.{All-contains, Contains-append_left, Contains-append_cases}
use Rattle.dy_dots.specs.Dots.{same_dot}
use Rattle.dy_siblings.specs.Versions.{in_history}
use Rattle.dy_siblings.specs.Siblings.{Siblings, same_key, is_past, has_dot, newest, merge}
use Rattle.dy_core.specs.Worlds.{World, row_at}
use Rattle.dy_core.specs.Covers.{covers_at}
use Rattle.dy_core.specs.Steps.{same_place, after_issue, after_hold, after_release}
use Rattle.dy_dots.specs.declared.dots.Dot.{Dot}
use Rattle.dy_siblings.specs.declared.versions.Version.{Version}
use Rattle.dy_siblings.proofs.Members.{in_tail, any_gives, any_from, filter_in, filter_from}
use Rattle.dy_dots.proofs.SameDots.{same_dot_is, same_dot_self}
use Rattle.dy_siblings.proofs.SameKeys.{same_key_is, same_key_self}
use Rattle.dy_core.proofs.Ordered.{IsOrdered, AreOf, newest_covers, past_is_known, same_version}

-- a version that stands at a place
pub record StandsAt (w : World) (holder home : ℕ) (key : List ℕ) (v : Version) : Type 0 where
  pub made : Contains w.versions v
  pub key_is : v.key ≡ key
  pub is_held : w.holdings holder home key v.dot ≡ true

pub stands_from : (w : World) (holder home : ℕ) (key : List ℕ) (v : Version) → Contains (row_at w holder home key) v → StandsAt w holder home key v
stands_from w holder home key v h =
    let f = filter_from (λ v. same_key v.key key && w.holdings holder home key v.dot) w.versions v h in
    let parts = and_parts (same_key v.key key) (w.holdings holder home key v.dot) f.1 in
    record { made = f.0; key_is = same_key_is v.key key parts.0; is_held = parts.1 }

pub stands_in : (w : World) (holder home : ℕ) (key : List ℕ) (v : Version) → StandsAt w holder home key v → Contains (row_at w holder home key) v
stands_in w holder home key v s =
    filter_in (λ v. same_key v.key key && w.holdings holder home key v.dot) w.versions v s.made
    (and_from (same_key v.key key) (w.holdings holder home key v.dot) (ap (λ k. same_key k key) s.key_is ∙ same_key_self key) s.is_held)

-- a version that makes a pair cover a dot
pub record Covering (w : World) (key : List ℕ) (d : Dot) (home holder : ℕ) : Type 0 where
  pub version : Version
  pub stands : StandsAt w holder home key version
  pub reaches : in_history version d ≡ true

pub covering_from : (w : World) (key : List ℕ) (d : Dot) (home holder : ℕ) → covers_at w key d holder home ≡ true → Covering w key d home holder
covering_from w key d home holder c =
    let f = any_gives (λ v. in_history v d) (row_at w holder home key) c in
    record { version = f.item; stands = stands_from w holder home key f.item f.in_list; reaches = f.passes }

pub covering_in : (w : World) (key : List ℕ) (d : Dot) (home holder : ℕ) → Covering w key d home holder → covers_at w key d holder home ≡ true
covering_in w key d home holder c =
    any_from (λ v. in_history v d) (row_at w holder home key) c.version (stands_in w holder home key c.version c.stands) c.reaches

-- a pair covers what it covered, where what made it cover still stands
pub covers_still : (w x : World) (key : List ℕ) (d : Dot) (home holder : ℕ) →
    ((v : Version) → StandsAt w holder home key v → StandsAt x holder home key v) →
    covers_at w key d holder home ≡ true → covers_at x key d holder home ≡ true
covers_still w x key d home holder still c =
    let old = covering_from w key d home holder c in
    covering_in x key d home holder (record { version = old.version; stands = still old.version old.stands; reaches = old.reaches })

pub issue_keeps : (w : World) (new : Version) (key : List ℕ) (d : Dot) (home holder : ℕ) →
    covers_at w key d holder home ≡ true → covers_at (after_issue w new) key d holder home ≡ true
issue_keeps w new key d home holder =
    covers_still w (after_issue w new) key d home holder
    (λ v s. record { made = in_tail new v w.versions s.made; key_is = s.key_is; is_held = s.is_held })

pub record IsSamePlace (holder home : ℕ) (key : List ℕ) (p o : ℕ) (k : List ℕ) : Type 0 where
  pub holder_is : p ≡ holder
  pub home_is : o ≡ home
  pub key_is : k ≡ key

pub place_is : (holder home : ℕ) (key : List ℕ) (p o : ℕ) (k : List ℕ) → same_place holder home key p o k ≡ true → IsSamePlace holder home key p o k
place_is holder home key p o k e =
    let outer = and_parts (eqb p holder) (eqb o home && same_key k key) e in
    let inner = and_parts (eqb o home) (same_key k key) outer.1 in
    record { holder_is = eqb-true p holder outer.0; home_is = eqb-true o home inner.0; key_is = same_key_is k key inner.1 }

-- what is merged at a hold
pub AreOf-held : (w : World) (holder home : ℕ) (row : Siblings) → All (λ v. (v.key ≡ row.key) × Contains w.versions v) row.versions →
    AreOf w.versions row.key (row_at w holder home row.key ++ row.versions)
AreOf-held w holder home row made v h =
    ⊎_elim
    (λ l. let s = stands_from w holder home row.key v l in (s.made, s.key_is))
    (λ r. let m = All-contains (λ v. (v.key ≡ row.key) × Contains w.versions v) row.versions v made r in (m.1, m.0))
    (Contains-append_cases (row_at w holder home row.key) row.versions v h)

pub hold_keeps : (w : World) (holder home : ℕ) (row : Siblings) → IsOrdered w.versions → All (λ v. (v.key ≡ row.key) × Contains w.versions v) row.versions →
    (k : List ℕ) (d : Dot) (o p : ℕ) → covers_at w k d p o ≡ true → covers_at (after_hold w holder home row) k d p o ≡ true
hold_keeps w holder home row ordered made k d o p c =
    ⊎_elim
    (λ here.
    let place = place_is holder home row.key p o k here in
    let old = covering_from w k d o p c in
    let s = old.stands in
    let moved : Contains (row_at w holder home row.key) old.version =
    stands_in w holder home row.key old.version
    (record {
      made = s.made;
      key_is = s.key_is ∙ place.key_is;
      is_held = (λ i. w.holdings (sym place.holder_is i) (sym place.home_is i) (sym place.key_is i) old.version.dot) ∙ s.is_held;
    }) in
    let both = row_at w holder home row.key ++ row.versions in
    let reached = newest_covers w.versions ordered row.key both (AreOf-held w holder home row made) d
    (any_from (λ v. in_history v d) both old.version (Contains-append_left (row_at w holder home row.key) row.versions old.version moved) old.reaches) in
    let top = any_gives (λ v. in_history v d) (newest both) reached in
    let of = AreOf-held w holder home row made top.item (filter_from (λ v. not (is_past both v.dot)) both top.item top.in_list).0 in
    covering_in (after_hold w holder home row) k d o p
    (record {
      version = top.item;
      stands = record {
        made = of.0;
        key_is = of.1 ∙ sym place.key_is;
        is_held =
            cond-true (same_place holder home row.key p o k) (has_dot (newest both) top.item.dot) (w.holdings p o k top.item.dot) here
            ∙ any_from (λ v. same_dot v.dot top.item.dot) (newest both) top.item top.in_list (same_dot_self top.item.dot);
      };
      reaches = top.passes;
    }))
    (λ elsewhere.
    covers_still w (after_hold w holder home row) k d o p
    (λ v s. record {
      made = s.made;
      key_is = s.key_is;
      is_held =
          cond-false (same_place holder home row.key p o k)
          (has_dot (merge (row_at w holder home row.key) row.versions) v.dot) (w.holdings p o k v.dot) elsewhere
          ∙ s.is_held;
    }) c)
    (cases_Bool (same_place holder home row.key p o k))

-- a release elsewhere keeps what a pair covers
pub release_keeps : (w : World) (holder home : ℕ) (key : List ℕ) (e : Dot) (k : List ℕ) (d : Dot) (o p : ℕ) →
    same_place holder home key p o k ≡ false → covers_at w k d p o ≡ true → covers_at (after_release w holder home key e) k d p o ≡ true
release_keeps w holder home key e k d o p elsewhere =
    covers_still w (after_release w holder home key e) k d o p
    (λ v s. record {
      made = s.made;
      key_is = s.key_is;
      is_held = and_from (w.holdings p o k v.dot) (not (same_place holder home key p o k && same_dot v.dot e)) s.is_held
          (not_from_false (same_place holder home key p o k && same_dot v.dot e) (and_left (same_place holder home key p o k) (same_dot v.dot e) elsewhere));
    })

-- the home's own cover is kept by a release at another holder
pub release_keeps_own : (w : World) (holder home : ℕ) (key : List ℕ) (e : Dot) → (holder ≢ home) → (k : List ℕ) (d : Dot) (o : ℕ) →
    covers_at w k d o o ≡ true → covers_at (after_release w holder home key e) k d o o ≡ true
release_keeps_own w holder home key e other k d o =
    release_keeps w holder home key e k d o o
    (⊎_elim (λ here. let place = place_is holder home key o o k here in absurd (other (sym place.holder_is ∙ place.home_is))) (λ no. no)
    (cases_Bool (same_place holder home key o o k)))

-- who covers the dot of a version covers all that the version reaches back to
pub covers_history : (w : World) → IsOrdered w.versions → (key : List ℕ) (v : Version) → Contains w.versions v → v.key ≡ key →
    (d : Dot) → in_history v d ≡ true → (home holder : ℕ) → covers_at w key v.dot holder home ≡ true → covers_at w key d holder home ≡ true
covers_history w ordered key v made key_is d reaches home holder c =
    let above = covering_from w key v.dot home holder c in
    let u = above.version in
    covering_in w key d home holder
    (record {
      version = u;
      stands = above.stands;
      reaches =
          ⊎_elim
          (λ own.
          let same = same_version w.versions ordered u v above.stands.made made (above.stands.key_is ∙ sym key_is) (same_dot_is u.dot v.dot own) in
          ap (λ y. in_history y d) same ∙ reaches)
          (λ below.
          let known = past_is_known w.versions ordered u above.stands.made v.dot below in
          let same = same_version w.versions ordered known.version v known.in_list made (known.key_is ∙ above.stands.key_is ∙ sym key_is) known.dot_is in
          or_right (same_dot u.dot d) (set.contains u.past d) (known.history_in d (ap (λ y. in_history y d) same ∙ reaches)))
          (or_cases (same_dot u.dot v.dot) (set.contains u.past v.dot) above.reaches);
    })

-- after a release, a pair that covered a dot still does, or the home itself does
pub release_keeps_either : (w : World) → IsOrdered w.versions → (holder home : ℕ) (key : List ℕ) (e : Dot) → (holder ≢ home) → covers_at w key e home home ≡ true →
    (k : List ℕ) (d : Dot) (o p : ℕ) → covers_at w k d p o ≡ true →
    (covers_at (after_release w holder home key e) k d p o ≡ true) ⊎ (covers_at (after_release w holder home key e) k d o o ≡ true)
release_keeps_either w ordered holder home key e other own k d o p c =
    ⊎_elim
    (λ here.
    let place = place_is holder home key p o k here in
    let old = covering_from w k d o p c in
    let v = old.version in
    ⊎_elim
    (λ released.
    let own_here : covers_at w k v.dot o o ≡ true =
    (λ i. covers_at w (place.key_is i) (same_dot_is v.dot e released i) (place.home_is i) (place.home_is i)) ∙ own in
    inr (release_keeps_own w holder home key e other k d o
    (covers_history w ordered k v old.stands.made old.stands.key_is d old.reaches o o own_here)))
    (λ other_dot. inl
    (covering_in (after_release w holder home key e) k d o p
    (record {
      version = v;
      stands = record {
        made = old.stands.made;
        key_is = old.stands.key_is;
        is_held = and_from (w.holdings p o k v.dot) (not (same_place holder home key p o k && same_dot v.dot e)) old.stands.is_held
            (not_from_false (same_place holder home key p o k && same_dot v.dot e) (and_right (same_place holder home key p o k) (same_dot v.dot e) other_dot));
      };
      reaches = old.reaches;
    })))
    (cases_Bool (same_dot v.dot e)))
    (λ elsewhere. inl (release_keeps w holder home key e k d o p elsewhere c))
    (cases_Bool (same_place holder home key p o k))
