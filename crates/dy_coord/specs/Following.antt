-- What a put follows, and what its context leaves beside it.
use Rattle.std.specs.Prelude.{◌≡◌, ℕ, IsTrue, false, List}
use Rattle.std.specs.List.{Contains}
use Rattle.std.specs.FinSet as set
use Rattle.dy_dots.specs.Dots.{DotSet}
use Rattle.dy_siblings.specs.Versions.{precedes}
use Rattle.dy_siblings.specs.declared.versions.Version.{Version}

-- a version of the key that was issued, and that the context names
pub record IsNamed (issued : List Version) (key : List ℕ) (context : DotSet) (v : Version)
    : Type 0 where
  pub made : Contains issued v
  pub key_is : v.key ≡ key
  pub named : IsTrue (set.contains context v.dot)

-- a version of the key that was issued, that the context does not name, and that precedes none
-- which it names
pub record IsUnnamed (issued : List Version) (key : List ℕ) (context : DotSet) (v : Version)
    : Type 0 where
  pub made : Contains issued v
  pub key_is : v.key ≡ key
  pub not_named : set.contains context v.dot ≡ false
  pub not_followed : (u : Version) → IsNamed issued key context u → precedes v u ≡ false
