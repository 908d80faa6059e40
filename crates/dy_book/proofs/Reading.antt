-- The versions of a key that have the dots of a row are the row's, in its order.
use Rattle.std.proofs.Common.{◌≡◌, ℕ, List, take, drop, slice_get, Some, refl, sym, ap, ◌∙◌, subst}
use Rattle.std.specs.List.{Contains}
use Rattle.std.specs.FinSet as set
use Rattle.std.proofs.lemmas.List.{take-append-drop}
use Rattle.std.proofs.lemmas.List.Elements.{All-contains}
use Rattle.std.proofs.lemmas.Option.{slice_get_within, get_or_from_slice_get}
use Rattle.dy_dots.specs.Dots.{DotSet, same_dot}
use Rattle.dy_dots.proofs.SameDots.{same_dot_is, same_dot_self}
use Rattle.dy_siblings.specs.Siblings.{Siblings}
use Rattle.dy_siblings.specs.declared.versions.Version.{Version}
use Rattle.dy_siblings.proofs.Histories.{in_own_dots}
use Rattle.dy_siblings.proofs.Members.{any_gives, any_from}
use Rattle.dy_siblings.proofs.Rising.{same_rising}
use Rattle.dy_core.specs.Worlds.{Layout, World}
use Rattle.dy_core.specs.Logs.{IsLegal, world_after}
use Rattle.dy_core.specs.declared.steps.Step.{Step}
use Rattle.dy_core.specs.declared.steps.Step.TheVariants.{Hold}
use Rattle.dy_core.specs.declared.places.Place.{Place}
use Rattle.dy_core.proofs.Keeping.{all_from}
use Rattle.dy_core.proofs.Ordered.{same_version}
use Rattle.dy_core.proofs.OverLogs.{issued_stays, legal_at, log_sound}
use Rattle.dy_shares.specs.Trails.{AreKept, HasDots, Keeps}
use Rattle.dy_shares.specs.declared.kept_steps.KeptStep.{KeptStep}
use Rattle.dy_shares.proofs.Keeping.{kept_at}
use Rattle.dy_index.specs.declared.parts.KeyPart.{KeyPart}
use Rattle.dy_index.specs.Indexes.{IsIndex, made_in, part_at}
use Rattle.dy_index.specs.Lists.{AreCounted}
use Rattle.dy_index.specs.Readings.{AreOfDots}
use Rattle.dy_book.specs.inside.Readings.{IsLogged, IsLoggedRow}
use Rattle.dy_index.proofs.Making.{by_from, by_parts, in_made, log_counted, made_from}

-- ---- the row

module _ (entries : List (List ℕ × KeyPart)) where
  -- the lists of a key go on from 1
  pub index_counted : (row : Siblings) → IsLoggedRow entries row → (key : List ℕ) → (node : ℕ) → AreCounted node 0 (made_in (part_at entries key) node)
  index_counted row l key node =
      subst (AreCounted node 0) (sym ((l.index key).made_are node)) (log_counted l.layout l.steps l.legal key node).0

  -- the versions of the row's dots are the row's
  pub row_is : (row : Siblings) → IsLoggedRow entries row → (key : List ℕ) (dots : DotSet) → HasDots row key dots → (vs : List Version) →
      AreOfDots (made_in (part_at entries key)) dots vs → vs ≡ row.versions
  row_is row l key dots has vs are =
      same_rising vs row.versions are.rise has.siblings.rise (λ v. (forth v, back v))
    where
      w : World
      w = world_after l.steps

      of_key : (v : Version) → Contains (made_in (part_at entries key) v.dot.node) v → Contains (world_after l.steps).versions v × (v.key ≡ key)
      of_key v h =
          let m = made_from (world_after l.steps).versions key v.dot.node v (subst (λ xs. Contains xs v) ((l.index key).made_are v.dot.node) h) in
          (m.0, (by_parts v v.dot.node key m.1).1)

      made_row : (v : Version) → Contains row.versions v → (v.key ≡ row.key) × Contains (world_after l.steps).versions v
      made_row v h = All-contains (λ (u : Version). (u.key ≡ row.key) × Contains (world_after l.steps).versions u) row.versions v l.made h

      forth : (v : Version) → Contains vs v → Contains row.versions v
      forth v h =
          let m = (are.same v).0 h in
          let own = of_key v m.0 in
          let f = any_gives (λ (u : Version). same_dot u.dot v.dot) row.versions
          (sym (in_own_dots row.versions v.dot) ∙ ap (λ s. set.contains s v.dot) has.dots_are ∙ m.1) in
          let made = made_row f.item f.in_list in
          subst (Contains row.versions)
          (same_version (world_after l.steps).versions (log_sound l.layout l.steps l.legal).ordered f.item v made.1 own.0
          (made.0 ∙ has.key_is ∙ sym own.1) (same_dot_is f.item.dot v.dot f.passes))
          f.in_list

      back : (v : Version) → Contains row.versions v → Contains vs v
      back v h =
          let made = made_row v h in
          (are.same v).1 (
            subst (λ xs. Contains xs v) (sym ((l.index key).made_are v.dot.node))
                (in_made (world_after l.steps).versions key v.dot.node v made.1 (by_from v v.dot.node key refl (made.0 ∙ has.key_is))),
            ap (λ s. set.contains s v.dot) (sym has.dots_are) ∙ in_own_dots row.versions v.dot
                ∙ any_from (λ (u : Version). same_dot u.dot v.dot) row.versions v h (same_dot_self v.dot),
          )

  -- a row that a log's hold has
  pub held_row : (p : Place) (row : Siblings) → IsLogged entries (Hold p row) → IsLoggedRow entries row
  held_row p row l =
      let k = l.in_log.0 in
      let allowed = legal_at l.layout l.steps l.legal k (Hold p row) l.in_log.1 (sym l.in_log.2) in
      record {
        layout = l.layout;
        steps = l.steps;
        legal = l.legal;
        index = l.index;
        made = all_from (λ (v : Version). (v.key ≡ row.key) × Contains (world_after l.steps).versions v) row.versions (λ v h.
            let m = All-contains (λ (u : Version). (u.key ≡ row.key) × Contains (world_after (take k l.steps)).versions u) row.versions v allowed.1 h in (
              m.0,
              subst (λ (ss : List Step). Contains (world_after ss).versions v) (take-append-drop k l.steps)
                  (issued_stays l.layout (take k l.steps) (drop k l.steps)
                  (subst (IsLegal l.layout) (sym (take-append-drop k l.steps)) l.legal) v m.1),
            ));
      }

-- the step of a place stands in the log, and is kept there
pub logged_at : (entries : List (List ℕ × KeyPart)) (layout : Layout) (steps : List Step) → IsLegal layout steps → IsIndex (world_after steps) entries →
    (trail : List KeptStep) → AreKept trail steps → (i : ℕ) (k : KeptStep) → slice_get trail i ≡ Some k →
    (s : Step) × (slice_get steps i ≡ Some s) × IsLogged entries s × Keeps k s
logged_at entries layout steps legal index trail all i k at =
    let f = kept_at trail steps i k all at in (
      f.0,
      f.1,
      record {
        layout = layout;
        steps = steps;
        legal = legal;
        index = index;
        in_log = (i, slice_get_within steps i f.0 f.1, get_or_from_slice_get steps i f.0 f.0 f.1);
      },
      f.2,
    )
