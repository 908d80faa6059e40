-- A row that is merged into what is kept of its key.
use Rattle.std.specs.Prelude.{◌≡◌, ◌≢◌, ◌<◌, ◌⊎◌, ◌∷◌, [], List, length, Option, Some, None}
use Rattle.std.specs.Prelude.{Contains}
use Rattle.dy_siblings.specs.Siblings.{Siblings, IsSameRow, merge}
use Rattle.dy_siblings.specs.Versions.{VersionParts}
use Rattle.dy_node_store.specs.Rows.{versions_in, without_dots, IsRowOf}
use Rattle.dy_node_store.specs.declared.placed.Placed.{Placed}
use Rattle.dy_node_store.specs.declared.placed.Placed.TheVariants.{Nothing, New, Over, Beside}

-- why nothing is put: the row is kept as it is, or no version is left of the merge
abbrev pub AddsNothing : Option Siblings → Siblings → Type 0
AddsNothing kept row =
    (kept ≡ Some row)
    ⊎ ((v : VersionParts) → Contains (merge (versions_in kept) row.versions) v → ⊥)

-- the versions are the merge of two rows of one key, which differ
pub record IsMergeOf (kept row : Siblings) (versions : List VersionParts) : Type 0 where
  pub one_key : IsRowOf row.key kept
  pub differ : kept ≢ row
  pub merged : IsSameRow versions (merge kept.versions row.versions)
  pub filled : 0 < length versions

module _ {M : Type 0} where
  -- the row is merged into what was kept of its key, in a map of rows: before, after, and with
  -- other versions in the place of the key's
  abbrev pub IsAbsorbed :
      M → M → (List VersionParts → M) → Option Siblings → Siblings → Placed → Type 0
  IsAbsorbed old new with kept row Nothing = (new ≡ old) × AddsNothing kept row
  IsAbsorbed old new with kept row New =
      (new ≡ with row.versions) × (kept ≡ None) × (0 < length row.versions)
  IsAbsorbed old new with kept row (Over before) =
      (kept ≡ Some before)
      × ((vs : List VersionParts) × (new ≡ with vs) × IsMergeOf before row vs)
  IsAbsorbed old new with kept row (Beside dot) =
      (before : Siblings) × (kept ≡ Some before)
      × ((vs : List VersionParts) × (new ≡ with vs) × IsMergeOf before row vs
      × (without_dots vs (dot ∷ []) ≡ before.versions))
