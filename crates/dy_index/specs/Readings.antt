-- What is read from what is known of a key.
use Rattle.std.specs.Prelude.{◌≡◌, ◌↔◌, ℕ, IsTrue, List, [], ◌∷◌}
use Rattle.std.specs.List.{Contains}
use Rattle.std.specs.FinSet as set
use Rattle.dy_dots.specs.Dots.{DotSet, IsDotBefore}
use Rattle.dy_dots.specs.declared.dots.Dot.{Dot}
use Rattle.dy_siblings.specs.Siblings.{Rise}
use Rattle.dy_siblings.specs.declared.versions.Version.{Version}
use Rattle.dy_core.specs.Worlds.{World}

-- the dot is the least of the row's versions that are not issued as they are
pub record IsLeastNotIssued (issued row : List Version) (d : Dot) : Type 0 where
  pub version : Version
  pub in_row : Contains row version
  pub dot_is : version.dot ≡ d
  pub not_issued : Contains issued version → ⊥
  pub least : (v : Version) → Contains row v → IsDotBefore v.dot d → Contains issued v

-- from this dot on, the dots rise
abbrev pub DotsRiseAfter : Dot → List Dot → Type 0
DotsRiseAfter d [] = Unit {0}
DotsRiseAfter d (e ∷ es) = IsDotBefore d e × DotsRiseAfter e es

-- the dots rise
abbrev pub DotsRise : List Dot → Type 0
DotsRise [] = Unit {0}
DotsRise (d ∷ ds) = DotsRiseAfter d ds

-- the dots of what is held at a place, rising
pub record ListsDots (w : World) (holder home : ℕ) (key : List ℕ) (dots : List Dot) : Type 0 where
  pub same : (d : Dot) → Contains dots d → IsTrue (w.holdings holder home key d)
  pub every : (d : Dot) → IsTrue (w.holdings holder home key d) → Contains dots d
  pub rise : DotsRise dots

-- the versions are those of the nodes' lists that have these dots, in the order of their dots
pub record AreOfDots (made : ℕ → List Version) (dots : DotSet) (vs : List Version) : Type 0 where
  pub rise : Rise vs
  pub same : (v : Version) →
      Contains vs v ↔ (Contains (made v.dot.node) v × IsTrue (set.contains dots v.dot))
