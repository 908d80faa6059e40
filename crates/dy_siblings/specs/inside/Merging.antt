-- How two lists of versions in the order of their dots become one.
use Rattle.std.specs.Prelude.{◌≡◌, ◌++◌, ◌⊎◌, not, Bool, ℕ, List, [], ◌∷◌, length}
use Rattle.std.specs.List.{Contains, filter, list_any}
use Rattle.std.specs.FinSet as set
use Rattle.dy_dots.specs.Dots.{DotSet, DotNumbers, IsDotBefore}
use Rattle.dy_siblings.specs.Versions.{VersionParts}
use Rattle.dy_siblings.specs.Siblings.{IsSameRow, Rise, merge}
use Rattle.dy_siblings.specs.inside.Conflicts.{do_conflict}

-- the set with the versions' pasts
abbrev pub with_pasts : DotSet → List VersionParts → DotSet
with_pasts s [] = s
with_pasts s (v ∷ vs) = with_pasts (set.union s v.past) vs

-- the dots that the versions of both lists follow
abbrev pub both_pasts : List VersionParts → List VersionParts → DotSet
both_pasts a b = with_pasts (with_pasts set.empty a) b

-- the set with the versions' histories
abbrev pub with_histories : DotSet → List VersionParts → DotSet
with_histories s [] = s
with_histories s (v ∷ vs) = with_histories (set.insert (set.union s v.past) v.dot) vs

-- the set with the versions' own dots
abbrev pub with_dots : DotSet → List VersionParts → DotSet
with_dots s [] = s
with_dots s (v ∷ vs) = with_dots (set.insert s v.dot) vs

-- the versions of both lists whose dot the set lacks
abbrev pub outside : DotSet → List VersionParts → List VersionParts → List VersionParts
outside past a b = filter (λ v. not (set.contains past v.dot)) (a ++ b)

-- the list rises, and has the versions of both whose dot the set lacks
abbrev pub IsUnionOutside :
    DotSet → List VersionParts → List VersionParts → List VersionParts → Type 0
IsUnionOutside past a b vs = Rise vs × IsSameRow vs (outside past a b)

-- the list rises, and is the merge of both
abbrev pub IsMerge : List VersionParts → List VersionParts → List VersionParts → Type 0
IsMerge a b vs = Rise vs × IsSameRow vs (merge a b)

-- each version of the one list has its dot among those of the other
abbrev pub AreAmong : List VersionParts → List VersionParts → Type 0
AreAmong a b =
    (v : VersionParts) → Contains a v → (w : VersionParts) × Contains b w × (w.dot ≡ v.dot)

-- whether a version of the one list conflicts with one of the other
abbrev pub do_lists_conflict : List VersionParts → List VersionParts → Bool
do_lists_conflict a b = list_any (λ u. list_any (λ v. do_conflict u v) b) a

-- the dot comes before that of the first version
abbrev pub IsFirst : DotNumbers → List VersionParts → Type 0
IsFirst d [] = Unit {0}
IsFirst d (v ∷ vs) = IsDotBefore d v.dot

-- the versions before this place come before the dot, and those from it on come after it
pub record IsPlaceOf (vs : List VersionParts) (d : DotNumbers) (at : ℕ) : Type 0 where
  pub front : List VersionParts
  pub back : List VersionParts
  pub both : vs ≡ front ++ back
  pub length_is : length front ≡ at
  pub before : (u : VersionParts) → Contains front u → IsDotBefore u.dot d
  pub after : IsFirst d back

-- the list rises, and has v besides the versions of the other
abbrev pub HasMore : List VersionParts → VersionParts → List VersionParts → Type 0
HasMore vs v more = Rise more × IsSameRow more (v ∷ vs)

-- v is the first of one list, and comes before the other's first
abbrev pub IsAlone :
    List VersionParts → List VersionParts → VersionParts → List VersionParts →
    List VersionParts → Type 0
IsAlone a b v a_rest b_rest = (a ≡ v ∷ a_rest) × (b ≡ b_rest) × IsFirst v.dot b

-- v is the first of a, and the first of b has its dot
abbrev pub IsShared :
    List VersionParts → List VersionParts → VersionParts → List VersionParts →
    List VersionParts → Type 0
IsShared a b v a_rest b_rest =
    (a ≡ v ∷ a_rest) × ((w : VersionParts) × (b ≡ w ∷ b_rest) × (w.dot ≡ v.dot))

-- v is taken off the front of the list whose first dot comes first, or of both
abbrev pub IsNextVersion :
    List VersionParts → List VersionParts → VersionParts → List VersionParts →
    List VersionParts → Type 0
IsNextVersion a b v a_rest b_rest =
    IsAlone a b v a_rest b_rest
    ⊎ (IsAlone b a v b_rest a_rest ⊎ IsShared a b v a_rest b_rest)
