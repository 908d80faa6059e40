-- A row put in its place, and taken back.
use Rattle.std.specs.Prelude.{◌≡◌, ◌≢◌, ℕ, ◌<◌, ◌⊎◌, ◌==◌, Option, List, [], ◌∷◌, length}
use Rattle.std.specs.Prelude.{IsSome}
use Rattle.std.specs.Prelude.{if◌then◌else◌}
use Rattle.std.specs.List.{Contains}
use Rattle.std.specs.FinMap as maps
use Rattle.dy_siblings.specs.Siblings.{Siblings, IsSameRow, merge}
use Rattle.dy_siblings.specs.declared.versions.Version.{Version}
use Rattle.dy_hint_store.specs.Hints.{IsHint}
use Rattle.dy_node.specs.Stored.{Rooms, versions_at, with_row}
use Rattle.dy_node_store.specs.Rows.{without_dots}
use Rattle.dy_node_store.specs.declared.placed.Placed.{Placed}
use Rattle.dy_node_store.specs.declared.placed.Placed.TheVariants.{Nothing, New, Over, Beside}

-- the row that is kept of a key for a home, where there is one
abbrev pub row_kept : Rooms → ℕ → List ℕ → Option Siblings
row_kept r home key =
    if home == r.node then maps.get r.rows key else maps.get r.hints (home, key)

-- what is kept once the row is taken back
abbrev pub taken_back : Rooms → ℕ → List ℕ → Placed → Rooms
taken_back r home key Nothing = r
taken_back r home key New = with_row r home key []
taken_back r home key (Over before) = with_row r home key before.versions
taken_back r home key (Beside dot) =
    with_row r home key (without_dots (versions_at r home key) (dot ∷ []))

-- what was put can be taken back
abbrev pub FitsBack : Rooms → ℕ → List ℕ → Placed → Type 0
FitsBack r home key Nothing = Unit {0}
FitsBack r home key New = Unit {0}
FitsBack r home key (Beside dot) = Unit {0}
FitsBack r home key (Over before) =
    (before.key ≡ key) × (0 < length before.versions) × IsSome (row_kept r home key)

-- what stands at a place: these versions where it is the one, else what stood there
abbrev pub EitherAt :
    ℕ → List ℕ → List Version → ℕ → List ℕ → List Version → List Version → Type 0
EitherAt home key vs o k new old =
    ((o ≡ home) × (k ≡ key) × (new ≡ vs)) ⊎ ((o ≡ home → k ≡ key → ⊥) × (new ≡ old))

-- at the one place the row is merged with what was kept there
pub record IsMerged (old new : Rooms) (home : ℕ) (row : Siblings) : Type 0 where
  pub versions : List Version
  pub merged : IsSameRow versions (merge (versions_at old home row.key) row.versions)
  pub placed : (o : ℕ) (k : List ℕ) →
      EitherAt home row.key versions o k (versions_at new o k) (versions_at old o k)

-- nothing comes of the merge, and what is kept stays
pub record IsUnmerged (old new : Rooms) (home : ℕ) (row : Siblings) : Type 0 where
  pub stays : new ≡ old
  pub none : (v : Version) →
      Contains (merge (versions_at old home row.key) row.versions) v → ⊥

-- the row is merged into what is kept, and can be taken back
pub record IsAdded (old new : Rooms) (home : ℕ) (row : Siblings) (placed : Placed) : Type 0 where
  pub node_is : new.node ≡ old.node
  pub changed : IsMerged old new home row ⊎ IsUnmerged old new home row
  pub fits : FitsBack new home row.key placed
  pub back : taken_back new home row.key placed ≡ old

-- the hint is for another node: the row that is kept of its key for that one, and has a version
abbrev pub IsHintOf : Rooms → ℕ × Siblings → Type 0
IsHintOf r hint = (hint.0 ≢ r.node) × IsHint r.hints hint
