-- Versions that follow nothing: what is made of them follows nothing, and none follows another.
use Rattle.std.proofs.Common.{◌≡◌, ◌↔◌, ◌++◌, ◌||◌, ◌∷◌, Bool, true, false, not, List, refl, sym, ap, ◌∙◌, ⊎_elim}
use Rattle.std.specs.List.{list_any}
use Rattle.std.specs.FinSet as set
use Rattle.std.proofs.lemmas.Bool.{true≢false}
use Rattle.std.proofs.lemmas.List.Elements.{Contains-append_cases}
use Rattle.dy_dots.specs.Dots.{DotNumbers, dot_cmp, same_dot}
use Rattle.dy_siblings.specs.Versions.{VersionParts, precedes}
use Rattle.dy_siblings.specs.Siblings.{is_past, without}
use Rattle.dy_siblings.specs.inside.Lists.{FollowNothing}
use Rattle.dy_siblings.specs.inside.Merging.{HasMore, IsMerge}
use Rattle.dy_siblings.proofs.Members.{none_from, filter_from, in_cases, in_tail}

-- where one of two may not follow, neither may
pub neither : (a b : Bool) → (a || b) ≡ false → (a ≡ false) × (b ≡ false)
neither true b e = absurd (true≢false e)
neither false b e = (refl, e)

-- what is not not so, is so
pub is_so : (b : Bool) → not b ≡ false → b ≡ true
is_so true e = refl
is_so false e = absurd (true≢false e)

-- what follows nothing does so with one more that follows nothing, and no other way
pub one_more_follows_nothing : (vs : List VersionParts) (v : VersionParts) → v.past ≡ set.empty →
    FollowNothing (v ∷ vs) ↔ FollowNothing vs
one_more_follows_nothing vs v none = (
  λ all u h. all u (in_tail v u vs h),
  λ all u h. ⊎_elim (λ same. ap (λ x. x.past) same ∙ none) (all u) (in_cases v u vs h),
)

pub merge_follows_nothing : (a b vs : List VersionParts) → IsMerge a b vs → FollowNothing a →
    FollowNothing b → FollowNothing vs
merge_follows_nothing a b vs is none_a none_b v h =
    ⊎_elim (none_a v) (none_b v)
    (Contains-append_cases a b v (filter_from (λ u. not (is_past (a ++ b) u.dot)) (a ++ b) v ((is.1 v).0 h)).0)

pub more_follows_nothing : (vs : List VersionParts) (v : VersionParts) (more : List VersionParts) →
    HasMore vs v more → FollowNothing vs → v.past ≡ set.empty → FollowNothing more
more_follows_nothing vs v more has none e u h =
    ⊎_elim (λ same. ap (λ x. x.past) same ∙ e) (none u) (in_cases v u vs ((has.1 u).0 h))

pub less_follows_nothing : (vs : List VersionParts) (d : DotNumbers) → FollowNothing vs →
    FollowNothing (without vs d)
less_follows_nothing vs d none v h =
    none v (filter_from (λ u. not (same_dot u.dot d)) vs v h).0

-- none of them follows v
pub none_after : (vs : List VersionParts) (v : VersionParts) → FollowNothing vs →
    list_any (λ u. precedes v u) vs ≡ false
none_after vs v none =
    none_from (λ u. precedes v u) vs
    (λ u h after. true≢false (sym after ∙ ap (λ s. set.contains s v.dot) (none u h) ∙ set.contains-empty dot_cmp v.dot))
