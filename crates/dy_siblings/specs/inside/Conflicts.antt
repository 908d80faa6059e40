-- When versions of one dot are not one version.
use Rattle.std.specs.Prelude.{ℕ, ◌&&◌, not, nat_eq, Bool, true, false, List, Option, Some, None}
use Rattle.std.specs.Cmp.Lexicographic.{pointwise}
use Rattle.std.specs.FinSet as set
use Rattle.dy_dots.specs.Dots.{same_dot}
use Rattle.dy_siblings.specs.Versions.{VersionParts}

-- whether two values are both absent, or the same bytes
abbrev pub same_value : Option (List ℕ) → Option (List ℕ) → Bool
same_value None None = true
same_value (Some a) (Some b) = pointwise nat_eq a b
same_value None (Some b) = false
same_value (Some a) None = false

-- whether two versions follow the same dots, and store the same
abbrev pub same_rest : VersionParts → VersionParts → Bool
same_rest u v =
    (set.is_subset u.past v.past && set.is_subset v.past u.past) && same_value u.value v.value

-- whether two versions are the same in all that they say
abbrev pub same_version : VersionParts → VersionParts → Bool
same_version u v = (pointwise nat_eq u.key v.key && same_dot u.dot v.dot) && same_rest u v

-- whether two versions have one dot, and are not the same
abbrev pub do_conflict : VersionParts → VersionParts → Bool
do_conflict u v = same_dot u.dot v.dot && not (same_version u v)
