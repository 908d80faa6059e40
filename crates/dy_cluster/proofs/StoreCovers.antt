-- What the nodes of a closed cluster keep is what the world after its log holds.
use Rattle.std.proofs.Common.{◌≡◌, ℕ, List, [], ◌∷◌, true, ◌&&◌, sym, ap, ◌∙◌, subst, ⊎_elim}
use Rattle.std.specs.List.{AllZip, Contains}
use Rattle.std.proofs.lemmas.Bool.{and_parts}
use Rattle.std.proofs.lemmas.List.Elements.{All-contains, All-weaker}
use Rattle.dy_dots.specs.Dots.{same_dot}
use Rattle.dy_dots.specs.declared.dots.Dot.{Dot}
use Rattle.dy_dots.proofs.SameDots.{same_dot_is}
use Rattle.dy_siblings.specs.Versions.{in_history}
use Rattle.dy_siblings.specs.Siblings.{covers, has_dot, same_key, IsSameRow}
use Rattle.dy_siblings.proofs.Members.{any_gives, any_from, in_cases, in_head, in_tail, not_in_nil}
use Rattle.dy_siblings.proofs.SameKeys.{same_key_is}
use Rattle.dy_ring.specs.Rings.{Tokens}
use Rattle.dy_core.specs.Worlds.{layout_of, row_at}
use Rattle.dy_core.specs.Covers.{CoversAt, HasCover}
use Rattle.dy_core.specs.declared.acks.Acked.{Acked}
use Rattle.dy_core.specs.declared.places.Place.{Place}
use Rattle.dy_core.proofs.Listed.{any_same}
use Rattle.dy_core.proofs.OverLogs.{log_sound}
use Rattle.dy_core.proofs.Standing.{covering_from, stands_from, stands_in}
use Rattle.dy_shares.specs.Shares.{BelongsTo, NodePart, SessionPart, steps_of}
use Rattle.dy_shares.proofs.Whole.{acked_in, held_from}
use Rattle.dy_book.specs.Audits.{IsShown, IsTold, account_of}
use Rattle.dy_book.specs.Books.{world_of}
use Rattle.dy_node.specs.Nodes.{RestState}
use Rattle.dy_node.specs.Stored.{Shows, versions_at}
use Rattle.dy_node.proofs.Worldly.{matches_world}
use Rattle.dy_cluster.specs.Ends.{AtRest, GoesWith, IsEndOf}
use Rattle.dy_cluster.specs.Stores.{AreCovering, IsKept, KeepsCover, TellsStores}
use Rattle.dy_cluster.specs.declared.resting.Closed.{Closed}

-- of two lists that go together: what goes with an item of the first
pub record Other {A B : Type 0} (R : A → B → Type 0) (ys : List B) (x : A) : Type 0 where
  pub item : B
  pub in_list : Contains ys item
  pub goes : R x item

-- the first list's item, with its other
other : {A B : Type 0} (R : A → B → Type 0) (xs : List A) (ys : List B) → AllZip R xs ys → (x : A) →
    Contains xs x → Other R ys x
other R [] [] all x h = absurd (not_in_nil x h)
other R [] (b ∷ ys) all x h = absurd all
other R (a ∷ xs) [] all x h = absurd all
other R (a ∷ xs) (b ∷ ys) all x h =
    ⊎_elim
    (λ here. record { item = b; in_list = in_head b ys; goes = subst (λ z. R z b) (sym here) all.0 })
    (λ later. let o = other R xs ys all.1 x later in
    record { item = o.item; in_list = in_tail b o.item ys o.in_list; goes = o.goes })
    (in_cases a x xs h)

-- what goes together goes together the other way round
turned : {A B : Type 0} (R : A → B → Type 0) (xs : List A) (ys : List B) → AllZip R xs ys →
    AllZip (λ y x. R x y) ys xs
turned R [] [] all = tt
turned R [] (b ∷ ys) all = absurd all
turned R (a ∷ xs) [] all = absurd all
turned R (a ∷ xs) (b ∷ ys) all = (all.0, turned R xs ys all.1)

module _ (ring : Tokens) (n r : ℕ) (c : AtRest) (tellings : List SessionPart) (closed : Closed)
    (ended : IsEndOf ring n r c tellings closed) where
  belongs : (p : NodePart) → Contains c.parts p → BelongsTo (steps_of c.book.log) p
  belongs p i = All-contains (λ q. BelongsTo (steps_of c.book.log) q) c.parts p
      ended.audit.all.nodes_belong i

  -- what the store of a share keeps is what the world holds there
  pub same_rows : (p : NodePart) → Contains c.parts p → (s : RestState) → Shows p s.stored →
      (home : ℕ) (key : List ℕ) →
      IsSameRow (versions_at s.stored.rooms home key) (row_at (world_of c.book) p.node home key)
  same_rows p i s is home key =
      subst (λ m. IsSameRow (versions_at s.stored.rooms home key)
      (row_at (world_of c.book) m home key)) is.node_is
      ((matches_world (steps_of c.book.log) p (belongs p i) s.stored is).rows_are home key)

  pub store_of : (p : NodePart) → Contains c.parts p → Other (GoesWith ring n) closed.rests.items p
  store_of p i = subst (λ rs. Other (GoesWith ring n) rs p) (sym ended.rests_are)
      (other (GoesWith ring n) c.parts c.rests ended.together p i)

  pub share_of : (s : RestState) → Contains closed.rests.items s →
      Other (λ x p. GoesWith ring n p x) c.parts s
  share_of s i = other (λ x p. GoesWith ring n p x) c.rests c.parts
      (turned (GoesWith ring n) c.parts c.rests ended.together) s
      (subst (λ rs. Contains rs s) ended.rests_are i)

  -- what the world holds at a place stands in its row there
  has_held : (holder home : ℕ) (key : List ℕ) (d : Dot) →
      (world_of c.book).holdings holder home key d ≡ true →
      has_dot (row_at (world_of c.book) holder home key) d ≡ true
  has_held holder home key d held =
      let w = world_of c.book in
      let sound = log_sound (layout_of ring n) (steps_of c.book.log) ended.legal in
      let made = any_gives (λ v. same_key v.key key && same_dot v.dot d) w.versions
      (sound.held_sound holder home key d held).1 in
      let parts = and_parts (same_key made.item.key key) (same_dot made.item.dot d) made.passes in
      any_from (λ v. same_dot v.dot d) (row_at w holder home key) made.item
      (stands_in w holder home key made.item (record {
        made = made.in_list;
        key_is = same_key_is made.item.key key parts.0;
        is_held = ap (λ e. w.holdings holder home key e) (same_dot_is made.item.dot d parts.1)
            ∙ held;
      })) parts.1

  held_has : (holder home : ℕ) (key : List ℕ) (d : Dot) →
      has_dot (row_at (world_of c.book) holder home key) d ≡ true →
      (world_of c.book).holdings holder home key d ≡ true
  held_has holder home key d has =
      let w = world_of c.book in
      let found = any_gives (λ v. same_dot v.dot d) (row_at w holder home key) has in
      let stands = stands_from w holder home key found.item found.in_list in
      ap (λ e. w.holdings holder home key e) (sym (same_dot_is found.item.dot d found.passes))
      ∙ stands.is_held

  pub kept_from : (holder home : ℕ) (key : List ℕ) (d : Dot) → IsShown c.parts holder home key d →
      IsKept closed.rests.items holder home key d
  kept_from holder home key d shown =
      let p = shown.0 in
      let o = store_of p shown.1 in
      let held = sym ((belongs p shown.1).shows_holdings home key d) ∙ shown.3 in (
        o.item,
        o.in_list,
        o.goes.0.node_is ∙ shown.2,
        any_same (λ v. same_dot v.dot d) (versions_at o.item.stored.rooms home key)
            (row_at (world_of c.book) p.node home key)
            (same_rows p shown.1 o.item o.goes.0 home key)
            ∙ has_held p.node home key d held,
      )

  pub kept_in : (holder home : ℕ) (key : List ℕ) (d : Dot) →
      IsKept closed.rests.items holder home key d → IsShown c.parts holder home key d
  kept_in holder home key d kept =
      let s = kept.0 in
      let o = share_of s kept.1 in
      let has = sym (any_same (λ v. same_dot v.dot d) (versions_at s.stored.rooms home key)
      (row_at (world_of c.book) o.item.node home key)
      (same_rows o.item o.in_list s o.goes.0 home key)) ∙ kept.3 in (
        o.item,
        o.in_list,
        sym o.goes.0.node_is ∙ kept.2,
        (belongs o.item o.in_list).shows_holdings home key d
            ∙ held_has o.item.node home key d has,
      )

  keeps_cover : (key : List ℕ) (d : Dot) (p : Place) →
      CoversAt (world_of c.book) key d p.holder p.home →
      KeepsCover closed.rests.items p.holder p.home key d
  keeps_cover key d p covered =
      let w = world_of c.book in
      let by = covering_from w key d p.home p.holder covered in
      let f = held_from ring.nodes r (account_of c.book) c.parts tellings ended.audit.all
      p.holder p.home key by.version.dot by.stands.is_held in
      let o = store_of f.0 f.1 in (
        o.item,
        o.in_list,
        o.goes.0.node_is ∙ f.2,
        any_same (λ v. in_history v d) (versions_at o.item.stored.rooms p.home key)
            (row_at w f.0.node p.home key) (same_rows f.0 f.1 o.item o.goes.0 p.home key)
            ∙ (ap (λ m. covers (row_at w m p.home key) d) f.2 ∙ covered),
      )

  pub stores_cover : (x : Acked) → IsTold tellings x →
      AreCovering ring n closed.rests.items x.key x.dot x.w
  stores_cover x told =
      let w = world_of c.book in
      let layout = layout_of ring n in
      let cover : HasCover layout w x.key x.dot x.w =
      All-contains (λ a. HasCover layout w a.key a.dot a.w) w.acks x ended.audit.covered
      (acked_in ring.nodes r (account_of c.book) c.parts tellings ended.audit.all x told) in
      let is = cover.is_cover in (
        cover.places,
        record {
          count_is = is.count_is;
          each_home = is.each_home;
          homes_distinct = is.homes_distinct;
          holders_distinct = is.holders_distinct;
          each_covers = All-weaker (λ p. CoversAt w x.key x.dot p.holder p.home)
              (λ p. KeepsCover closed.rests.items p.holder p.home x.key x.dot)
              (keeps_cover x.key x.dot) cover.places is.each_covers;
        },
      )

  -- so the audit tells what the stores have
  pub tells_stores : TellsStores ring n closed
  tells_stores = record {
    held = λ holder home key d. (let shown = ended.audit.held_shown holder home key d in (
      (λ told. kept_from holder home key d (shown.0 told)),
      (λ kept. shown.1 (kept_in holder home key d kept)),
    ));
    covered = λ x lists. stores_cover x ((ended.audit.acked_told x).0 lists);
  }
