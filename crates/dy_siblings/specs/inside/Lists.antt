-- What a list of versions has, in whatever form it is kept, and what a row knows of it.
use Rattle.std.specs.Prelude.{◌≡◌, Bool, false, ℕ, List, [], ◌∷◌, Some, None}
use Rattle.std.specs.List.{Contains}
use Rattle.std.specs.FinSet as set
use Rattle.dy_siblings.specs.Versions.{VersionParts}
use Rattle.dy_siblings.specs.Siblings.{IsSiblingSet}
use Rattle.dy_siblings.specs.declared.lists.Versions.{Versions}
use Rattle.dy_siblings.specs.declared.lists.Versions.TheVariants.{Few, Many}

abbrev pub items_of : Versions → List VersionParts
items_of (Few None) = []
items_of (Few (Some v)) = v ∷ []
items_of (Many vs) = vs.items

-- none of the versions follows any dot
abbrev pub FollowNothing : List VersionParts → Type 0
FollowNothing vs = (v : VersionParts) → Contains vs v → v.past ≡ set.empty

-- siblings of the key, of which none follows any dot, unless one may
pub record IsRow (key : List ℕ) (vs : List VersionParts) (may_follow : Bool) : Type 0 where
  pub siblings : IsSiblingSet key vs
  pub pastless : may_follow ≡ false → FollowNothing vs
