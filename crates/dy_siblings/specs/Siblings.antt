-- Rows: the versions of one key of which none follows another.
use Rattle.std.specs.Prelude.{◌≡◌, ℕ, ◌++◌, ◌↔◌, ◌||◌, ◌⊎◌, not, nat_eq, Bool, true, false, List}
use Rattle.std.specs.Prelude.{[], ◌∷◌, Contains, refl}
use Rattle.std.specs.Cmp.Lexicographic.{pointwise}
use Rattle.std.specs.List.{list_any, filter, filter_map, All}
use Rattle.std.specs.Coded.{Coded, code_by, coded×, coded_ℕ, coded_list}
use Rattle.std.specs.FinSet as set
use Rattle.dy_dots.specs.Dots.{DotNumbers, DotSet, same_dot, IsDotBefore}
use Rattle.dy_siblings.specs.Versions.{VersionParts, IsVersion, history_of, in_history, present}
use Rattle.dy_siblings.specs.Versions.{precedes, version_code}

-- what a row is seen as: its key, and its versions in the order of their dots
pub record Siblings : Type 0 where
  pub key : List ℕ
  pub versions : List VersionParts

-- how a row's key and versions are told apart
abbrev pub siblings_code : Coded Siblings
siblings_code =
    code_by (List ℕ × List VersionParts) (coded× (coded_list coded_ℕ) (coded_list version_code))
    (λ s. (s.key, s.versions)) (λ p. record { key = p.0; versions = p.1 }) (λ _. refl)

-- whether two keys are the same bytes
abbrev pub same_key : List ℕ → List ℕ → Bool
same_key j k = pointwise nat_eq j k

-- whether one of the versions covers the dot
abbrev pub covers : List VersionParts → DotNumbers → Bool
covers vs d = list_any (λ v. in_history v d) vs

-- whether the dot lies in the past of one of the versions
abbrev pub is_past : List VersionParts → DotNumbers → Bool
is_past vs d = list_any (λ v. set.contains v.past d) vs

-- whether the dot names one of the versions
abbrev pub has_dot : List VersionParts → DotNumbers → Bool
has_dot vs d = list_any (λ v. same_dot v.dot d) vs

-- the versions whose dot lies in the past of none of them
abbrev pub newest : List VersionParts → List VersionParts
newest vs = filter (λ v. not (is_past vs v.dot)) vs

-- the merge of two rows: of the versions of both, those whose dot lies in the past of none
-- (the `sync` of Preguiça et al., on one key)
abbrev pub merge : List VersionParts → List VersionParts → List VersionParts
merge s t = newest (s ++ t)

-- v is a version of b that a lacks, and all others of b have their dots among those of a
pub record IsLone (a b : List VersionParts) (v : VersionParts) : Type 0 where
  pub in_b : Contains b v
  pub not_in_a : has_dot a v.dot ≡ false
  pub others : (w : VersionParts) → Contains b w → (w ≡ v) ⊎ (has_dot a w.dot ≡ true)

-- b has one version more than a, side by side with all of a: none of them follows it, or is
-- followed by it
abbrev pub IsBeside : List VersionParts → List VersionParts → VersionParts → Type 0
IsBeside a b v = IsLone a b v × (list_any (λ u. precedes u v || precedes v u) a ≡ false)

-- b is v alone, and a is one version that v follows, and that does not follow v
pub record IsFollower (a b : List VersionParts) (v : VersionParts) : Type 0 where
  pub alone : b ≡ v ∷ []
  pub earlier : VersionParts
  pub before : a ≡ earlier ∷ []
  pub follows : precedes earlier v ≡ true
  pub not_back : precedes v earlier ≡ false

-- the union of the versions' histories
abbrev pub context_of : List VersionParts → DotSet
context_of [] = set.empty
context_of (v ∷ vs) = set.union (history_of v) (context_of vs)

-- the versions' own dots
abbrev pub own_dots : List VersionParts → DotSet
own_dots [] = set.empty
own_dots (v ∷ vs) = set.insert (own_dots vs) v.dot

-- the versions but that of the dot
abbrev pub without : List VersionParts → DotNumbers → List VersionParts
without vs d = filter (λ v. not (same_dot v.dot d)) vs

-- the values that are present, each with its dot, in the order of the versions
abbrev pub present_values : List VersionParts → List (DotNumbers × List ℕ)
present_values vs = filter_map present vs

-- where one of the versions precedes another, the past of the first lies in that of the other
abbrev pub AreClosed : List VersionParts → Type 0
AreClosed vs =
    (u v : VersionParts) → Contains vs u → Contains vs v → set.contains v.past u.dot ≡ true →
    (d : DotNumbers) → set.contains u.past d ≡ true → set.contains v.past d ≡ true

-- the same versions, in whatever order
abbrev pub IsSameRow : List VersionParts → List VersionParts → Type 0
IsSameRow xs ys = (v : VersionParts) → Contains xs v ↔ Contains ys v

-- versions with one dot are one version
abbrev pub AreOneByDot : List VersionParts → Type 0
AreOneByDot vs = (u v : VersionParts) → Contains vs u → Contains vs v → u.dot ≡ v.dot → u ≡ v

-- from this dot on, the dots of the versions rise
abbrev pub RiseAfter : DotNumbers → List VersionParts → Type 0
RiseAfter d [] = Unit {0}
RiseAfter d (v ∷ vs) = IsDotBefore d v.dot × RiseAfter v.dot vs

-- the dots of the versions rise, so no two have one dot
abbrev pub Rise : List VersionParts → Type 0
Rise [] = Unit {0}
Rise (v ∷ vs) = RiseAfter v.dot vs

-- versions of one key, in the order of their dots, of which none follows another
pub record IsSiblingSet (key : List ℕ) (vs : List VersionParts) : Type 0 where
  pub of_key : All (λ v. v.key ≡ key) vs
  pub each_lacks : All IsVersion vs
  pub rise : Rise vs
  pub none_past : All (λ v. is_past vs v.dot ≡ false) vs
