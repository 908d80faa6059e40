-- What a closed cluster's audit lists as held is what its nodes' stores keep.
use Rattle.std.proofs.Common.{◌≡◌, ℕ, List, true, sym, ◌∙◌, subst}
use Rattle.std.specs.List.{Contains, filter}
use Rattle.std.proofs.lemmas.List.Elements.{All-contains}
use Rattle.dy_siblings.specs.Siblings.{AreOneByDot, IsSameRow, same_key}
use Rattle.dy_siblings.specs.declared.versions.Version.{Version}
use Rattle.dy_siblings.proofs.Members.{filter_from, filter_in}
use Rattle.dy_siblings.proofs.SameKeys.{same_key_is, same_key_self}
use Rattle.dy_ring.specs.Rings.{Tokens}
use Rattle.dy_core.specs.Worlds.{layout_of, row_at}
use Rattle.dy_core.specs.declared.holdings.Holding.{Holding}
use Rattle.dy_core.proofs.Ordered.{same_version}
use Rattle.dy_core.proofs.OverLogs.{log_sound}
use Rattle.dy_core.proofs.Standing.{stands_from}
use Rattle.dy_shares.specs.Shares.{SessionPart, steps_of}
use Rattle.dy_shares.proofs.Whole.{held_from}
use Rattle.dy_book.specs.Audits.{account_of}
use Rattle.dy_book.specs.Books.{world_of}
use Rattle.dy_cluster.specs.Ends.{AtRest, IsEndOf}
use Rattle.dy_cluster.specs.PresentValues.{KeepsVersion, versions_held}
use Rattle.dy_cluster.specs.declared.resting.Closed.{Closed}
use Rattle.dy_cluster.proofs.Gathered.{flat_map_from, flat_map_in}
use Rattle.dy_cluster.proofs.StoreCovers.{same_rows, share_of, store_of}

module _ (ring : Tokens) (n r : ℕ) (c : AtRest) (tellings : List SessionPart) (closed : Closed)
    (ended : IsEndOf ring n r c tellings closed) where
  -- where a version of the key that is held stands in the world
  record StandsHeld (key : List ℕ) (v : Version) : Type 0 where
    holding : Holding
    in_list : Contains closed.audit.held.items holding
    stands : Contains (row_at (world_of c.book) holding.holder holding.home key) v

  stands_held : (key : List ℕ) (v : Version) →
      Contains (versions_held closed.audit.held.items key) v → StandsHeld key v
  stands_held key v there =
      let held = closed.audit.held.items in
      let h = flat_map_from (λ (g : Holding). g.row.versions)
      (filter (λ g. same_key g.row.key key) held) v there in
      let of_key = filter_from (λ (g : Holding). same_key g.row.key key) held h.item h.in_list in
      let same = All-contains
      (λ g. IsSameRow g.row.versions (row_at (world_of c.book) g.holder g.home g.row.key)) held
      h.item ended.audit.tells.held.each of_key.0 in
      record {
        holding = h.item;
        in_list = of_key.0;
        stands =
            subst (λ k. Contains (row_at (world_of c.book) h.item.holder h.item.home k) v)
            (same_key_is h.item.row.key key of_key.1) ((same v).0 h.gives);
      }

  pub held_kept : (key : List ℕ) (v : Version) →
      Contains (versions_held closed.audit.held.items key) v →
      KeepsVersion closed.rests.items key v
  held_kept key v there =
      let w = world_of c.book in
      let s = stands_held key v there in
      let home = s.holding.home in
      let at = stands_from w s.holding.holder home key v s.stands in
      let f = held_from ring.nodes r (account_of c.book) c.parts tellings ended.audit.all
      s.holding.holder home key v.dot at.is_held in
      let o = store_of ring n r c tellings closed ended f.0 f.1 in (
        o.item,
        o.in_list,
        (
          home,
          (same_rows ring n r c tellings closed ended f.0 f.1 o.item o.goes.0 home key v).1
              (subst (λ m. Contains (row_at w m home key) v) (sym f.2) s.stands),
        ),
      )

  -- what stands at a place in the world is held
  pub stands_listed : (holder home : ℕ) (key : List ℕ) (v : Version) →
      Contains (row_at (world_of c.book) holder home key) v →
      Contains (versions_held closed.audit.held.items key) v
  stands_listed holder home key v at =
      let w = world_of c.book in
      let held = closed.audit.held.items in
      let h = ended.audit.tells.held.every holder home key v at in
      let same = All-contains
      (λ g. IsSameRow g.row.versions (row_at w g.holder g.home g.row.key)) held h.0
      ended.audit.tells.held.each h.1 in
      let there : Contains (row_at w h.0.holder h.0.home h.0.row.key) v =
      subst (λ k. Contains (row_at w h.0.holder h.0.home k) v) (sym h.4)
      (subst (λ m. Contains (row_at w h.0.holder m key) v) (sym h.3)
      (subst (λ m. Contains (row_at w m home key) v) (sym h.2) at)) in
      let of_key : same_key h.0.row.key key ≡ true =
      subst (λ k. same_key h.0.row.key k ≡ true) h.4 (same_key_self h.0.row.key) in
      flat_map_in (λ (g : Holding). g.row.versions) (filter (λ g. same_key g.row.key key) held) h.0 v
      (filter_in (λ (g : Holding). same_key g.row.key key) held h.0 h.1 of_key) ((same v).1 there)

  pub kept_held : (key : List ℕ) (v : Version) → KeepsVersion closed.rests.items key v →
      Contains (versions_held closed.audit.held.items key) v
  kept_held key v kept =
      let home = kept.2.0 in
      let o = share_of ring n r c tellings closed ended kept.0 kept.1 in
      stands_listed o.item.node home key v
      ((same_rows ring n r c tellings closed ended o.item o.in_list kept.0 o.goes.0 home
      key v).0 kept.2.1)

  -- each was made, and is of its key
  pub held_made : (key : List ℕ) (x : Version) →
      Contains (versions_held closed.audit.held.items key) x →
      Contains (world_of c.book).versions x × (x.key ≡ key)
  held_made key x there =
      let s = stands_held key x there in
      let at = stands_from (world_of c.book) s.holding.holder s.holding.home key x s.stands in
      (at.made, at.key_is)

  pub held_one : (key : List ℕ) → AreOneByDot (versions_held closed.audit.held.items key)
  held_one key u v u_in v_in dot_is =
      let w = world_of c.book in
      let sound = log_sound (layout_of ring n) (steps_of c.book.log) ended.legal in
      let a = held_made key u u_in in
      let b = held_made key v v_in in
      same_version w.versions sound.ordered u v a.0 b.0 (a.1 ∙ sym b.1) dot_is
