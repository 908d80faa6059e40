-- How the past of a version is gathered from the versions that a context names.
use Rattle.std.specs.Prelude.{◌≡◌, ℕ, ◌<◌, ◌≤◌, ◌⊎◌, true, List, Option}
use Rattle.std.specs.List.{Contains}
use Rattle.std.specs.FinSet as set
use Rattle.dy_dots.specs.Dots.{DotSet}
use Rattle.dy_dots.specs.Runs.{in_run}
use Rattle.dy_dots.specs.declared.dots.Dot.{Dot}
use Rattle.dy_dots.specs.declared.runs.Run.{Run}
use Rattle.dy_siblings.specs.Versions.{in_history}
use Rattle.dy_siblings.specs.declared.versions.Version.{Version}
use Rattle.dy_core.specs.Logs.{world_after}
use Rattle.dy_core.specs.declared.steps.Step.{Step}
use Rattle.dy_index.specs.Indexes.{IsPartAfter}
use Rattle.dy_index.specs.declared.parts.KeyPart.{KeyPart}

-- with the dot of a version of the key, the set has the version's history
abbrev pub IsClosed : List Version → List ℕ → DotSet → Type 0
IsClosed vs key s =
    (v : Version) → Contains vs v → v.key ≡ key → set.contains s v.dot ≡ true →
    (e : Dot) → in_history v e ≡ true → set.contains s e ≡ true

-- the set has the node's dots from this counter on, below that one
abbrev pub HasFrom : DotSet → ℕ → ℕ → ℕ → Type 0
HasFrom s node first end =
    (c : ℕ) → first ≤ c → c < end → set.contains s (record { node = node; counter = c }) ≡ true

-- the history of the version of the dot has the other
pub record Reaches (vs : List Version) (key : List ℕ) (d e : Dot) : Type 0 where
  pub version : Version
  pub in_list : Contains vs version
  pub key_is : version.key ≡ key
  pub dot_is : version.dot ≡ d
  pub reaches : in_history version e ≡ true

-- the set has grown by nothing but the history of the dot's version, and is closed
pub record GrowsBy (vs : List Version) (key : List ℕ) (d : Dot) (old new : DotSet) : Type 0 where
  pub keeps : (e : Dot) → set.contains old e ≡ true → set.contains new e ≡ true
  pub closed : IsClosed vs key new
  pub sound : (e : Dot) → set.contains new e ≡ true →
      (set.contains old e ≡ true) ⊎ Reaches vs key d e

-- the set has grown by nothing but the histories of versions that the run names, and is closed
pub record GrowsByRun (vs : List Version) (key : List ℕ) (r : Run) (old new : DotSet) : Type 0 where
  pub keeps : (e : Dot) → set.contains old e ≡ true → set.contains new e ≡ true
  pub closed : IsClosed vs key new
  pub sound : (e : Dot) → set.contains new e ≡ true →
      (set.contains old e ≡ true) ⊎ ((d : Dot) × (in_run r d ≡ true) × Reaches vs key d e)

-- the part is what a legal log has of the key, and the set is closed among its versions
pub record IsGathering (steps : List Step) (key : List ℕ) (p : Option KeyPart) (s : DotSet)
    : Type 0 where
  pub known : IsPartAfter steps key p
  pub closed : IsClosed (world_after steps).versions key s
