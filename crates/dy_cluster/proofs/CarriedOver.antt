-- What was acknowledged is among what is carried over, by its version or by one that follows it:
-- a place of its cover has such a version, and the newest of the key's versions cover it too.
use Rattle.std.proofs.Common.{◌≡◌, ◌≤◌, ℕ, List, [], ◌∷◌, Option, None, Some, option_map, length}
use Rattle.std.proofs.Common.{refl, ap, arith, inl, inr, ◌⊎◌}
use Rattle.std.specs.List.{All, Contains}
use Rattle.std.proofs.lemmas.List.Elements.{All-contains, All-cons, All-nil}
use Rattle.dy_siblings.specs.Siblings.{newest}
use Rattle.dy_siblings.specs.Versions.{in_history, present}
use Rattle.dy_siblings.specs.declared.versions.Version.{Version}
use Rattle.dy_siblings.proofs.Members.{any_from, any_gives, in_head}
use Rattle.dy_ring.specs.Rings.{Tokens}
use Rattle.dy_core.specs.Covers.{CoversAt, HasCover}
use Rattle.dy_core.specs.Logs.{IsLegal, world_after}
use Rattle.dy_core.specs.Steps.{IsAllowed, world_after_step}
use Rattle.dy_core.specs.Worlds.{Layout, World, empty_world, layout_of, row_at}
use Rattle.dy_core.specs.declared.acks.Acked.{Acked}
use Rattle.dy_core.specs.declared.places.Place.{Place}
use Rattle.dy_core.specs.declared.steps.Step.{Step}
use Rattle.dy_core.specs.declared.steps.Step.TheVariants.{Issue, Hold, Release, Fetch, Ack}
use Rattle.dy_core.proofs.Kept.{IsSound, empty_sound}
use Rattle.dy_core.proofs.Ordered.{newest_covers}
use Rattle.dy_core.proofs.OverLogs.{kept_from, log_sound}
use Rattle.dy_shares.specs.Shares.{SessionPart, steps_of}
use Rattle.dy_shares.proofs.Whole.{acked_in}
use Rattle.dy_book.specs.Audits.{IsTold, account_of}
use Rattle.dy_book.specs.Books.{world_of}
use Rattle.dy_cluster.specs.Carrying.{IsAmong}
use Rattle.dy_cluster.specs.Ends.{AtRest, IsEndOf}
use Rattle.dy_cluster.specs.PresentValues.{ArePresent, versions_held}
use Rattle.dy_cluster.specs.declared.resting.Closed.{Closed}
use Rattle.dy_cluster.specs.declared.values.PresentValue.{PresentValue}
use Rattle.dy_cluster.proofs.Gathered.{filter_map_in}
use Rattle.dy_cluster.proofs.Stored.{held_made, stands_listed}

-- each ack names a home at least
abbrev NameHomes : World → Type 0
NameHomes w = All (λ (a : Acked). 1 ≤ a.w) w.acks

step_names : (layout : Layout) (w : World) → IsSound layout w → (s : Step) →
    IsAllowed layout w s → NameHomes w → NameHomes (world_after_step w s)
step_names layout w sound (Issue node key context value) allowed names = names
step_names layout w sound (Hold p row) allowed names = names
step_names layout w sound (Release p key d) allowed names = names
step_names layout w sound (Fetch p key) allowed names = names
step_names layout w sound (Ack key d count) allowed names =
    All-cons (λ (a : Acked). 1 ≤ a.w) (record { key = key; dot = d; w = count }) w.acks allowed.0 names

log_names : (layout : Layout) (steps : List Step) → IsLegal layout steps →
    NameHomes (world_after steps)
log_names layout steps legal =
    kept_from layout NameHomes (step_names layout) empty_world (empty_sound layout) steps legal
    (All-nil (λ (a : Acked). 1 ≤ a.w))

-- so a cover has a place
first_place : (places : List Place) (count : ℕ) → length places ≡ count → 1 ≤ count →
    (p : Place) × Contains places p
first_place [] count is some = absurd (omega (arith, is, some))
first_place (p ∷ ps) count is some = (p, in_head p ps)

module _ (ring : Tokens) (n r : ℕ) (c : AtRest) (tellings : List SessionPart) (closed : Closed)
    (ended : IsEndOf ring n r c tellings closed) (xs : List PresentValue)
    (are : ArePresent closed.audit.held.items xs) where
  -- the newest version of the key that has the dot is a deletion, or its value is listed
  listed : (key : List ℕ) (v : Version) →
      Contains (newest (versions_held closed.audit.held.items key)) v →
      (value : Option (List ℕ)) → v.value ≡ value →
      (v.value ≡ None) ⊎ ((value : List ℕ) × (v.value ≡ Some value)
      × Contains xs (record { key = key; dot = v.dot; value = value }))
  listed key v there None is = inl is
  listed key v there (Some value) is = inr (
    value,
    is,
    (are.are_all (record { key = key; dot = v.dot; value = value })).1
        (filter_map_in present (newest (versions_held closed.audit.held.items key)) v
        (v.dot, value) there (ap (option_map (λ (y : List ℕ). (v.dot, y))) is)),
  )

  pub is_among : (x : Acked) → IsTold tellings x →
      IsAmong closed.audit.held.items xs x.key x.dot
  is_among x told =
      let w = world_of c.book in
      let layout = layout_of ring n in
      let steps = steps_of c.book.log in
      let held = versions_held closed.audit.held.items x.key in
      let acked = acked_in ring.nodes r (account_of c.book) c.parts tellings ended.audit.all x told in
      let cover : HasCover layout w x.key x.dot x.w =
      All-contains (λ a. HasCover layout w a.key a.dot a.w) w.acks x ended.audit.covered acked in
      let some : 1 ≤ x.w =
      All-contains (λ (a : Acked). 1 ≤ a.w) w.acks x (log_names layout steps ended.legal) acked in
      let p = first_place cover.places x.w cover.is_cover.count_is some in
      let at = All-contains (λ q. CoversAt w x.key x.dot q.holder q.home) cover.places p.0
      cover.is_cover.each_covers p.1 in
      let u = any_gives (λ v. in_history v x.dot) (row_at w p.0.holder p.0.home x.key) at in
      let there = stands_listed ring n r c tellings closed ended p.0.holder p.0.home x.key u.item
      u.in_list in
      let top = any_gives (λ v. in_history v x.dot) (newest held)
      (newest_covers w.versions (log_sound layout steps ended.legal).ordered x.key held
      (held_made ring n r c tellings closed ended x.key)
      x.dot (any_from (λ v. in_history v x.dot) held u.item there u.passes)) in
      record {
        version = top.item;
        is_newest = top.in_list;
        has = top.passes;
        is_listed = listed x.key top.item top.in_list top.item.value refl;
      }
