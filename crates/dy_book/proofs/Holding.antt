-- The book's log and index after a hold, and after an issue with its hold.
use Rattle.std.proofs.Common.{◌≡◌, ◌≢◌, ℕ, ◌+◌, ◌<◌, cond, List, [], ◌∷◌}
use Rattle.std.proofs.Common.{◌++◌, map, length, Some, IsTrue, refl, sym, ap, ◌∙◌, subst}
use Rattle.std.proofs.Common.{arith}
use Rattle.std.specs.List.{Contains}
use Rattle.dy_siblings.specs.Siblings.{Siblings, AreOneByDot, IsSameRow, merge, same_key}
use Rattle.dy_siblings.specs.declared.versions.Version.{Version}
use Rattle.dy_preference.specs.Preferences.{may_hold}
use Rattle.dy_core.specs.Worlds.{Layout, AreMadeOf, empty_world}
use Rattle.dy_core.specs.Covers.{ReceiptHolds}
use Rattle.dy_core.specs.Steps.{version_made, after_issue, after_hold, place_for}
use Rattle.dy_core.specs.Logs.{world_from, world_after, IsLegal, IsLegalFrom}
use Rattle.dy_core.specs.inside.Meanings.{row_in}
use Rattle.dy_core.specs.Orders.{holding_cmp, put}
use Rattle.dy_core.specs.declared.steps.Step.{Step}
use Rattle.dy_core.specs.declared.steps.Step.TheVariants.{Hold}
use Rattle.dy_core.specs.declared.holdings.Holding.{Holding}
use Rattle.dy_core.proofs.Kept.{IsSound}
use Rattle.dy_core.proofs.OverLogs.{log_sound, legal_join, world_from-append}
use Rattle.dy_shares.specs.declared.entries.Entry.{Entry}
use Rattle.dy_shares.specs.Shares.{steps_of, untold}
use Rattle.dy_shares.proofs.Owners.{steps_of-append}
use Rattle.dy_index.specs.declared.parts.KeyPart.{KeyPart}
use Rattle.dy_book.specs.Books.{IsNext, issue_steps, row_alone}
use Rattle.dy_index.specs.Lists.{HaveSameMade}
use Rattle.dy_index.specs.Indexes.{made_by, part_at, IsPart}
use Rattle.dy_index.specs.Indexes.{IsIndex}
use Rattle.dy_index.proofs.Coverage.{covers_held}
use Rattle.dy_index.proofs.Holding.{part_held, index_held, issued_is, issue_only, alone_made}
use Rattle.dy_index.proofs.Holding.{part_issued, index_issued, issued_covers, issued_agrees}

-- ---- the log

steps_of-untold : (ss : List Step) → steps_of (map untold ss) ≡ ss
steps_of-untold [] = refl
steps_of-untold (s ∷ ss) = ap (λ xs. s ∷ xs) (steps_of-untold ss)

pub steps_grown : (log : List Entry) (ss : List Step) →
    steps_of (log ++ map untold ss) ≡ steps_of log ++ ss
steps_grown log ss =
    steps_of-append log (map untold ss) ∙ ap (λ xs. steps_of log ++ xs) (steps_of-untold ss)

pub world_grown : (log : List Entry) (ss : List Step) →
    world_after (steps_of (log ++ map untold ss)) ≡ world_from (world_after (steps_of log)) ss
world_grown log ss =
    ap world_after (steps_grown log ss) ∙ world_from-append empty_world (steps_of log) ss

pub legal_grown : (layout : Layout) (log : List Entry) (ss : List Step) →
    IsLegal layout (steps_of log) → IsLegalFrom layout (world_after (steps_of log)) ss →
    IsLegal layout (steps_of (log ++ map untold ss))
legal_grown layout log ss legal allowed =
    subst (IsLegal layout) (sym (steps_grown log ss))
    (legal_join layout empty_world (steps_of log) ss legal allowed)

-- ---- a hold

module _ (layout : Layout) (log : List Entry) (legal : IsLegal layout (steps_of log))
    (holder home : ℕ) (row : Siblings)
    (of_row : AreMadeOf (world_after (steps_of log)) row.key row.versions)
    (may : IsTrue (may_hold (layout.homes row.key) holder home)) where
  pub hold_allowed : IsLegalFrom layout (world_after (steps_of log))
      (Hold (place_for holder home) row ∷ [])
  hold_allowed = ((may, of_row), tt)

  pub hold_legal : IsLegal layout
      (steps_of (log ++ map untold (Hold (place_for holder home) row ∷ [])))
  hold_legal = legal_grown layout log (Hold (place_for holder home) row ∷ []) legal hold_allowed

  pub hold_world : world_after
      (steps_of (log ++ map untold (Hold (place_for holder home) row ∷ []))) ≡ after_hold
      (world_after (steps_of log)) holder home row
  hold_world = world_grown log (Hold (place_for holder home) row ∷ [])

  pub hold_part : (old new : KeyPart) → IsPart (world_after (steps_of log)) row.key (Some old) →
      HaveSameMade new.made.items old.made.items →
      (c : Holding) → c.holder ≡ holder → c.home ≡ home → c.row.key ≡ row.key →
      IsSameRow c.row.versions (merge (row_in old.places.items holder home row.key) row.versions) →
      new.places.items ≡ put holding_cmp old.places.items c →
      IsPart (world_after (steps_of (log ++ map untold (Hold (place_for holder home) row ∷ []))))
      row.key (Some new)
  hold_part old new are same c holder_is home_is key_is merged placed =
      subst (λ x. IsPart x row.key (Some new)) (sym hold_world)
      (part_held layout (world_after (steps_of log)) (log_sound layout (steps_of log) legal)
      holder home row of_row old new are same c holder_is home_is key_is merged placed)

  pub hold_index : (es fs : List (List ℕ × KeyPart)) (p : KeyPart) →
      ((q : List ℕ) → part_at fs q ≡ cond (same_key row.key q) (Some p)
      (part_at es q)) →
      IsPart (world_after (steps_of (log ++ map untold (Hold (place_for holder home) row ∷ []))))
      row.key (Some p) →
      IsIndex (world_after (steps_of log)) es →
      IsIndex (world_after (steps_of (log ++ map untold (Hold (place_for holder home) row ∷ []))))
      fs
  hold_index es fs p written here index =
      subst (λ x. IsIndex x fs) (sym hold_world)
      (index_held layout (world_after (steps_of log)) (log_sound layout (steps_of log) legal)
      holder home row of_row es fs p written
      (subst (λ x. IsPart x row.key (Some p)) hold_world here) index)

  pub hold_versions : (world_after
      (steps_of (log ++ map untold (Hold (place_for holder home) row ∷ [])))).versions
      ≡ (world_after (steps_of log)).versions
  hold_versions = ap (λ x. x.versions) hold_world

  -- each version that came is covered there
  pub hold_covers : (v : Version) → Contains row.versions v →
      ReceiptHolds (world_after (steps_of (log ++ map untold (Hold (place_for holder home) row ∷ []))))
      row.key v.dot holder home
  hold_covers v inside =
      subst (λ x. ReceiptHolds x row.key v.dot holder home) (sym hold_world)
      (covers_held layout (world_after (steps_of log))
      (log_sound layout (steps_of log) legal) holder home row of_row v inside)

-- ---- an issue with its hold

module _ (layout : Layout) (log : List Entry) (legal : IsLegal layout (steps_of log))
    (node home : ℕ) (v : Version)
    (next : IsNext (world_after (steps_of log)) node v)
    (room : (world_after (steps_of log)).counters node v.key < 1000000)
    (may : IsTrue (may_hold (layout.homes v.key) node home)) where
  sound_old : IsSound layout (world_after (steps_of log))
  sound_old = log_sound layout (steps_of log) legal

  pub issue_makes : version_made (world_after (steps_of log)) node v.key v.past v.value ≡ v
  issue_makes = issued_is layout (world_after (steps_of log)) sound_old node home v next.context
      next.is_made room

  pub issue_allowed : IsLegalFrom layout (world_after (steps_of log)) (issue_steps node home v)
  issue_allowed = (
    issue_only layout (world_after (steps_of log)) sound_old node home v next.context next.is_made
        room,
    (
      (
        may,
        subst
            (λ u. AreMadeOf (after_issue (world_after (steps_of log)) u) v.key (v ∷ []))
            (sym issue_makes)
            (alone_made layout (world_after (steps_of log)) sound_old node home v next.context
            next.is_made room),
      ),
      tt,
    ),
  )

  pub issue_legal : IsLegal layout (steps_of (log ++ map untold (issue_steps node home v)))
  issue_legal = legal_grown layout log (issue_steps node home v) legal issue_allowed

  pub issue_world : world_after
      (steps_of (log ++ map untold (issue_steps node home v))) ≡ after_hold
      (after_issue (world_after (steps_of log)) v) node home (row_alone v)
  issue_world =
      world_grown log (issue_steps node home v)
      ∙ ap (λ u. after_hold (after_issue (world_after (steps_of log)) u) node home (row_alone v))
      issue_makes

  pub issue_part : (old new : KeyPart) → IsPart (world_after (steps_of log)) v.key (Some old) →
      made_by new v.dot.node ≡ made_by old v.dot.node ++ v ∷ [] →
      ((n : ℕ) → n ≢ v.dot.node → made_by new n ≡ made_by old n) →
      (c : Holding) → c.holder ≡ node → c.home ≡ home → c.row.key ≡ v.key →
      IsSameRow c.row.versions (merge (row_in old.places.items node home v.key) (v ∷ [])) →
      new.places.items ≡ put holding_cmp old.places.items c →
      IsPart (world_after (steps_of (log ++ map untold (issue_steps node home v)))) v.key (Some new)
  issue_part old new are own others c holder_is home_is key_is merged placed =
      subst (λ x. IsPart x v.key (Some new)) (sym issue_world)
      (part_issued layout (world_after (steps_of log)) sound_old node home v next.context
      next.is_made room old new are own others c holder_is home_is key_is merged placed)

  pub issue_index : (es fs : List (List ℕ × KeyPart)) (p : KeyPart) →
      ((q : List ℕ) → part_at fs q ≡ cond (same_key v.key q) (Some p)
      (part_at es q)) →
      IsPart (world_after (steps_of (log ++ map untold (issue_steps node home v)))) v.key (Some p) →
      IsIndex (world_after (steps_of log)) es →
      IsIndex (world_after (steps_of (log ++ map untold (issue_steps node home v)))) fs
  issue_index es fs p written here index =
      subst (λ x. IsIndex x fs) (sym issue_world)
      (index_issued layout (world_after (steps_of log)) sound_old node home v next.context
      next.is_made room es fs p written
      (subst (λ x. IsPart x v.key (Some p)) issue_world here) index)

  pub issue_versions : length
      (world_after (steps_of (log ++ map untold (issue_steps node home v)))).versions ≡ length
      (world_after (steps_of log)).versions + 1
  issue_versions = ap (λ x. length x.versions) issue_world ∙ omega arith

  pub issue_covers : ReceiptHolds
      (world_after (steps_of (log ++ map untold (issue_steps node home v)))) v.key v.dot node home
  issue_covers =
      subst (λ x. ReceiptHolds x v.key v.dot node home) (sym issue_world)
      (issued_covers layout (world_after (steps_of log)) sound_old node home v next.context
      next.is_made room)

  -- what is held where the version comes, and the version, are one by dot
  pub issue_agrees : (old : KeyPart) → IsPart (world_after (steps_of log)) v.key (Some old) →
      AreOneByDot (row_in old.places.items node home v.key ++ v ∷ [])
  issue_agrees = issued_agrees layout (world_after (steps_of log)) sound_old node home v
      next.context next.is_made room
