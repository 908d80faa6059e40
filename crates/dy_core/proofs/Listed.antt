-- What the lists inside a world say of it.
use Rattle.std.proofs.Common.{◌≡◌, ℕ, ◌<◌, Bool, true, false, ◌&&◌, not, eqb, ◌↔◌, List, [], ◌∷◌, length, Option, None, Some, MatchOption, refl, sym, ap, ◌∙◌, subst, ⊎_elim, arith}
use Rattle.std.specs.List.{All, Contains, list_any}
use Rattle.std.proofs.lemmas.Bool.{cases_Bool, and_parts, and_from, eqb-true, eqb-false, true≢false, not-true, not_from_false}
use Rattle.std.proofs.lemmas.Cmp.{nat_list_cmp_total}
use Rattle.std.proofs.lemmas.List.Elements.{All-contains}
use Rattle.std.specs.Cmp.{both_ways as both_ways_same}
use Rattle.dy_dots.specs.Dots.{same_dot}
use Rattle.dy_siblings.specs.Versions.{in_history}
use Rattle.dy_siblings.specs.Siblings.{IsSameRow, has_dot, same_key, covers}
use Rattle.dy_preference.specs.Preferences.{is_home}
use Rattle.dy_core.specs.Worlds.{Layout, World, AreMadeOf, IsSettled, is_issued, row_at}
use Rattle.dy_core.specs.Covers.{covers_at}
use Rattle.dy_core.specs.Logs.{world_after}
use Rattle.dy_core.specs.inside.Meanings.{Meets, IsAfter, last_in, row_in, is_hint, settled_in}
use Rattle.dy_core.specs.Listings.{ListsHoldings, ListsAcks, ListsCovers, ListsSettled, is_covering, place_of}
use Rattle.dy_core.specs.Orders.{place_cmp, key_cmp, gathered}
use Rattle.dy_dots.specs.declared.dots.Dot.{Dot}
use Rattle.dy_siblings.specs.declared.versions.Version.{Version}
use Rattle.dy_core.specs.declared.acks.Acked.{Acked}
use Rattle.dy_core.specs.declared.places.Place.{Place}
use Rattle.dy_core.specs.declared.holdings.Holding.{Holding}
use Rattle.dy_core.specs.declared.steps.Step.{Step}
use Rattle.dy_siblings.proofs.Members.{not_in_nil, in_head, any_gives, any_from, none_from}
use Rattle.dy_dots.proofs.SameDots.{same_dot_is}
use Rattle.dy_siblings.proofs.SameKeys.{same_key_is, same_key_self}
use Rattle.dy_core.proofs.Standing.{stands_from, stands_in}
use Rattle.dy_core.proofs.Kept.{IsSound}
use Rattle.dy_core.proofs.OverLogs.{log_sound}
use Rattle.dy_core.proofs.Receipts.{cover_home}
use Rattle.dy_core.proofs.NextVersion.{last_is}
use Rattle.dy_core.proofs.Gathering.{gathered_from, gathered_has, gathered_sorted}
use Rattle.dy_core.proofs.Held.{Spot, at_from, keys_tie, place_cmp_total, places_tie, row_in-of, row_in-from}
use Rattle.dy_core.proofs.Keeping.{all_from}

-- a test of some member is the same for the same members
pub any_same : {X : Type 0} (p : X → Bool) (xs ys : List X) → ((x : X) → Contains xs x ↔ Contains ys x) → list_any p xs ≡ list_any p ys
any_same p xs ys same =
    both_ways_same (list_any p xs) (list_any p ys)
    (λ e. let f = any_gives p xs e in any_from p ys f.item ((same f.item).0 f.in_list) f.passes)
    (λ e. let f = any_gives p ys e in any_from p xs f.item ((same f.item).1 f.in_list) f.passes)

pub issued_same : (xs ys : List Version) → IsSameRow xs ys → (key : List ℕ) (d : Dot) → is_issued xs key d ≡ is_issued ys key d
issued_same xs ys same key d = any_same (λ v. same_key v.key key && same_dot v.dot d) xs ys same

pub covers_same : (xs ys : List Version) → IsSameRow xs ys → (d : Dot) → covers xs d ≡ covers ys d
covers_same xs ys same d = any_same (λ v. in_history v d) xs ys same

-- a member fails a test that none passes
none_passes : {X : Type 0} (p : X → Bool) (xs : List X) (x : X) → Contains xs x → list_any p xs ≡ false → p x ≡ false
none_passes p xs x h e = ⊎_elim (λ yes. absurd (true≢false (sym (any_from p xs x h yes) ∙ e))) (λ no. no) (cases_Bool (p x))

first_of : (vs : List Version) → 0 < length vs → (v : Version) × Contains vs v
first_of [] some = absurd (omega (arith, some))
first_of (v ∷ vs) some = (v, in_head v vs)

module _ (w : World) (versions : List Version) (held : List Holding) (acked : List Acked) (meets : Meets w versions held acked) where
  pub acks_listed : ListsAcks w acked
  acks_listed = record { same = meets.acks_are; in_order = meets.acks_in_order }

  pub holdings_listed : ListsHoldings w held
  holdings_listed =
      record {
        each = all_from (λ h. IsSameRow h.row.versions (row_at w h.holder h.home h.row.key)) held (λ h inside.
            subst (λ vs. IsSameRow vs (row_at w h.holder h.home h.row.key))
            (row_in-of h.holder h.home h.row.key held meets.held_in_order h inside
            (at_from h.holder h.home h.row.key h (record { holder_is = refl; home_is = refl; key_is = refl })))
            (meets.rows_are h.holder h.home h.row.key));
        none_empty = meets.none_empty;
        every = λ holder home key v inside.
            let f = row_in-from holder home key held v ((meets.rows_are holder home key v).1 inside) in
            (f.0, f.1, f.2.holder_is, f.2.home_is, f.2.key_is);
        in_order = meets.held_in_order;
      }

  pub covers_is : (holder home : ℕ) (key : List ℕ) (d : Dot) → covers (row_in held holder home key) d ≡ covers_at w key d holder home
  covers_is holder home key d = covers_same (row_in held holder home key) (row_at w holder home key) (meets.rows_are holder home key) d

  -- what covers a dot at a place is a holding there
  pub covers_listed : (key : List ℕ) (d : Dot) → ListsCovers w key d (gathered place_cmp (is_covering key d) place_of held)
  covers_listed key d =
      record {
        same = λ p. (
          (λ inside.
              let s = gathered_from place_cmp (is_covering key d) place_of held p inside in
              let h = s.item in
              let parts = and_parts (same_key h.row.key key) (covers h.row.versions d) s.passes in
              let key_is = same_key_is h.row.key key parts.0 in
              let row_is = row_in-of h.holder h.home key held meets.held_in_order h s.in_list
              (at_from h.holder h.home key h (record { holder_is = refl; home_is = refl; key_is = key_is })) in
              ap (λ q. covers_at w key d q.holder q.home) (sym s.gives)
              ∙ sym (covers_is h.holder h.home key d)
              ∙ ap (λ vs. covers vs d) row_is
              ∙ parts.1),
          (λ covered.
              let found = any_gives (λ v. in_history v d) (row_in held p.holder p.home key) (covers_is p.holder p.home key d ∙ covered) in
              let f = row_in-from p.holder p.home key held found.item found.in_list in
              let h = f.0 in
              let row_is = row_in-of p.holder p.home key held meets.held_in_order h f.1 (at_from p.holder p.home key h f.2) in
              subst (Contains (gathered place_cmp (is_covering key d) place_of held))
              (place_at h f.2)
              (gathered_has place_cmp (is_covering key d) place_of places_tie held h f.1
              (and_from (same_key h.row.key key) (covers h.row.versions d)
              (ap (λ k. same_key k key) f.2.key_is ∙ same_key_self key)
              (ap (λ vs. covers vs d) (sym row_is) ∙ covers_is p.holder p.home key d ∙ covered)))),
        );
        in_order = gathered_sorted place_cmp (is_covering key d) place_of place_cmp_total held;
      }
    where
      place_at : {p : Place} (h : Holding) → Spot p.holder p.home key h → place_of h ≡ p
      place_at h spot = λ i. record { home = spot.home_is i; holder = spot.holder_is i }

  pub settled_gives : (layout : Layout) → IsSound layout w → (key : List ℕ) → settled_in held key ≡ true → IsSettled w key
  settled_gives layout sound key e holder home d is_held =
      let issued = any_gives (λ v. same_key v.key key && same_dot v.dot d) w.versions (sound.held_sound holder home key d is_held).1 in
      let v = issued.item in
      let parts = and_parts (same_key v.key key) (same_dot v.dot d) issued.passes in
      let stands = stands_in w holder home key v
      (record {
        made = issued.in_list;
        key_is = same_key_is v.key key parts.0;
        is_held = ap (w.holdings holder home key) (same_dot_is v.dot d parts.1) ∙ is_held;
      }) in
      let f = row_in-from holder home key held v ((meets.rows_are holder home key v).1 stands) in
      let h = f.0 in
      let no_hint : is_hint key h ≡ false = none_passes (is_hint key) held h f.1 (not-true (list_any (is_hint key) held) e) in
      sym f.2.holder_is
      ∙ ⊎_elim
      (λ same. eqb-true h.holder h.home same)
      (λ other.
      absurd
      (true≢false
      (sym (and_from (not (eqb h.holder h.home)) (same_key h.row.key key) (not_from_false (eqb h.holder h.home) other)
      (ap (λ k. same_key k key) f.2.key_is ∙ same_key_self key)) ∙ no_hint)))
      (cases_Bool (eqb h.holder h.home))
      ∙ f.2.home_is

  pub settled_from : (key : List ℕ) → IsSettled w key → settled_in held key ≡ true
  settled_from key settled =
      not_from_false (list_any (is_hint key) held)
      (none_from (is_hint key) held (λ h inside hint.
      let parts = and_parts (not (eqb h.holder h.home)) (same_key h.row.key key) hint in
      let key_is = same_key_is h.row.key key parts.1 in
      let first = first_of h.row.versions (All-contains (λ x. 0 < length x.row.versions) held h meets.none_empty inside) in
      let row_is = row_in-of h.holder h.home key held meets.held_in_order h inside
      (at_from h.holder h.home key h (record { holder_is = refl; home_is = refl; key_is = key_is })) in
      let s = stands_from w h.holder h.home key first.0 ((meets.rows_are h.holder h.home key first.0).0 (subst (λ vs. Contains vs first.0) (sym row_is) first.1)) in
      eqb-false h.holder h.home (not-true (eqb h.holder h.home) parts.0) (settled h.holder h.home first.0.dot s.is_held)))

  pub settled_listed : (layout : Layout) → IsSound layout w →
      ListsSettled w (gathered key_cmp (λ v. settled_in held v.key) (λ v. v.key) versions)
  settled_listed layout sound =
      record {
        same = λ key. (
          (λ inside.
              let s = gathered_from key_cmp (λ v. settled_in held v.key) (λ v. v.key) versions key inside in
              ((s.item, (meets.versions_are s.item).0 s.in_list, s.gives), settled_gives layout sound key (ap (settled_in held) (sym s.gives) ∙ s.passes))),
          (λ h.
              let v = h.0.0 in
              subst (Contains (gathered key_cmp (λ v. settled_in held v.key) (λ v. v.key) versions)) h.0.2
              (gathered_has key_cmp (λ v. settled_in held v.key) (λ v. v.key) keys_tie versions v ((meets.versions_are v).1 h.0.1)
              (ap (settled_in held) h.0.2 ∙ settled_from key h.1))),
        );
        in_order = gathered_sorted key_cmp (λ v. settled_in held v.key) (λ v. v.key) nat_list_cmp_total versions;
      }

-- a fact of the option's cases gives a weaker one
pub option_weaker : {T : Type 0} (o : Option T) (P Q : Type 0) (R S : T → Type 0) → (P → Q) → ((x : T) → R x → S x) → MatchOption o P R → MatchOption o Q S
option_weaker None P Q R S none some h = none h
option_weaker (Some x) P Q R S none some h = some x h

module _ (layout : Layout) (steps : List Step) (versions : List Version) (held : List Holding) (acked : List Acked)
    (after : IsAfter layout steps versions held acked) where
  pub last_listed : (node : ℕ) (key : List ℕ) → last_in versions node key ≡ (world_after steps).counters node key
  last_listed node key = last_is layout (world_after steps) (log_sound layout steps after.is_legal) versions after.meets.versions_are node key

  pub settled_is : (key : List ℕ) → (settled_in held key ≡ true) ↔ IsSettled (world_after steps) key
  settled_is key = (
    settled_gives (world_after steps) versions held acked after.meets layout (log_sound layout steps after.is_legal) key,
    settled_from (world_after steps) versions held acked after.meets key,
  )

  pub keys_listed : ListsSettled (world_after steps) (gathered key_cmp (λ v. settled_in held v.key) (λ v. v.key) versions)
  keys_listed = settled_listed (world_after steps) versions held acked after.meets layout (log_sound layout steps after.is_legal)

  -- the places that cover are of homes of the key
  pub covers_homes : (key : List ℕ) (d : Dot) → All (λ p. is_home (layout.homes key) p.home ≡ true) (gathered place_cmp (is_covering key d) place_of held)
  covers_homes key d =
      all_from (λ p. is_home (layout.homes key) p.home ≡ true) (gathered place_cmp (is_covering key d) place_of held) (λ p inside.
      cover_home layout (world_after steps) (log_sound layout steps after.is_legal) key d p.home p.holder
      (((covers_listed (world_after steps) versions held acked after.meets key d).same p).0 inside))

  -- a row that is in the list of holdings has a version
  pub row_some : (h : Holding) → Contains held h → 0 < length h.row.versions
  row_some h inside = All-contains (λ x. 0 < length x.row.versions) held h after.meets.none_empty inside

  pub none_at : (holder home : ℕ) (key : List ℕ) → row_in held holder home key ≡ [] → (v : Version) → Contains (row_at (world_after steps) holder home key) v → ⊥
  none_at holder home key none v inside =
      not_in_nil v (subst (λ vs. Contains vs v) none ((after.meets.rows_are holder home key v).1 inside))

  -- what is held at a place is in the row there
  pub held_in : (holder home : ℕ) (key : List ℕ) (d : Dot) → has_dot (row_in held holder home key) d ≡ (world_after steps).holdings holder home key d
  held_in holder home key d =
      both_ways_same (has_dot (row_in held holder home key) d) ((world_after steps).holdings holder home key d)
      (λ e.
      let f = any_gives (λ v. same_dot v.dot d) (row_in held holder home key) e in
      let s = stands_from (world_after steps) holder home key f.item ((after.meets.rows_are holder home key f.item).0 f.in_list) in
      ap ((world_after steps).holdings holder home key) (sym (same_dot_is f.item.dot d f.passes)) ∙ s.is_held)
      (λ e.
      let issued = any_gives (λ v. same_key v.key key && same_dot v.dot d) (world_after steps).versions
      ((log_sound layout steps after.is_legal).held_sound holder home key d e).1 in
      let v = issued.item in
      let parts = and_parts (same_key v.key key) (same_dot v.dot d) issued.passes in
      any_from (λ v. same_dot v.dot d) (row_in held holder home key) v
      ((after.meets.rows_are holder home key v).1
      (stands_in (world_after steps) holder home key v
      (record {
        made = issued.in_list;
        key_is = same_key_is v.key key parts.0;
        is_held = ap ((world_after steps).holdings holder home key) (same_dot_is v.dot d parts.1) ∙ e;
      })))
      parts.1)

  -- versions that are all in the list of one key were made
  pub made_is : (key : List ℕ) (vs : List Version) → All (λ v. v.key ≡ key) vs →
      All (λ v. Contains versions v) vs ↔ AreMadeOf (world_after steps) key vs
  made_is key vs of_key = (
    (λ all k d lt. (of_key k d lt, (after.meets.versions_are _).0 (all k d lt))),
    (λ made k d lt. (after.meets.versions_are _).1 (made k d lt).1),
  )
