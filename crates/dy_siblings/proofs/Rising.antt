-- Versions in the order of their dots.
use Rattle.std.proofs.Common.{◌≡◌, ℕ, Bool, true, false, ◌||◌, cond, List, [], ◌∷◌, ◌++◌, refl, sym, ap, ◌∙◌, subst, inl, inr, ⊎_elim, arith}
use Rattle.std.specs.List.{list_any, filter, Contains}
use Rattle.std.specs.FinSet as set
use Rattle.std.proofs.lemmas.Bool.{true≢false}
use Rattle.std.proofs.lemmas.List.Elements.{All-filter, All-weaker, Contains-append_cases}
use Rattle.dy_dots.specs.Dots.{DotNumbers, IsDotBefore}
use Rattle.dy_siblings.specs.Versions.{VersionParts, IsVersion}
use Rattle.dy_siblings.specs.inside.Merging.{IsFirst}
use Rattle.dy_siblings.specs.Siblings.{Rise, RiseAfter, IsSameRow, IsSiblingSet, is_past}
use Rattle.dy_siblings.proofs.Members.{not_in_nil, in_head, in_tail, in_cases}

pub before_trans : (a b c : DotNumbers) → IsDotBefore a b → IsDotBefore b c → IsDotBefore a c
before_trans a b c (inl p) (inl q) = inl (omega arith)
before_trans a b c (inl p) (inr q) = inl (omega (arith, q.0))
before_trans a b c (inr p) (inl q) = inl (omega (arith, p.0))
before_trans a b c (inr p) (inr q) = inr (p.0 ∙ q.0, omega (arith, p.1, q.1))

pub before_not_self : (a : DotNumbers) → IsDotBefore a a → ⊥
before_not_self a (inl p) = absurd (omega arith)
before_not_self a (inr p) = absurd (omega (arith, p.1))

-- a list that rises after a dot rises after each earlier one
pub rise_earlier : (d e : DotNumbers) (vs : List VersionParts) → IsDotBefore d e → RiseAfter e vs → RiseAfter d vs
rise_earlier d e [] before rise = tt
rise_earlier d e (v ∷ vs) before rise = (before_trans d e v.dot before rise.0, rise.1)

-- what rises after a dot rises
pub tail_rises : (v : VersionParts) (vs : List VersionParts) → RiseAfter v.dot vs → Rise vs
tail_rises v [] rise = tt
tail_rises v (x ∷ xs) rise = rise.1

-- a list that rises rises without one of its versions
skip_after : (d : DotNumbers) (out : List VersionParts) (v : VersionParts) (l : List VersionParts) → RiseAfter d (out ++ v ∷ l) → RiseAfter d (out ++ l)
skip_after d [] v l rise = rise_earlier d v.dot l rise.0 rise.1
skip_after d (x ∷ xs) v l rise = (rise.0, skip_after x.dot xs v l rise.1)

pub rise_skip : (out : List VersionParts) (v : VersionParts) (l : List VersionParts) → Rise (out ++ v ∷ l) → Rise (out ++ l)
rise_skip [] v l rise = tail_rises v l rise
rise_skip (x ∷ xs) v l rise = skip_after x.dot xs v l rise

-- where v is the next after the others, and comes before the rest r, all of them rise
first_after : (d : DotNumbers) (v : VersionParts) (r : List VersionParts) → RiseAfter d r → IsFirst v.dot r → RiseAfter v.dot r
first_after d v [] rise first = tt
first_after d v (x ∷ xs) rise first = (first, rise.1)

first_rises : (v : VersionParts) (r : List VersionParts) → Rise r → IsFirst v.dot r → RiseAfter v.dot r
first_rises v [] rise first = tt
first_rises v (x ∷ xs) rise first = (first, rise)

put_after : (d : DotNumbers) (out : List VersionParts) (v : VersionParts) (l r : List VersionParts) → RiseAfter d (out ++ v ∷ l) → RiseAfter d (out ++ r) → IsFirst v.dot r → RiseAfter d (out ++ v ∷ r)
put_after d [] v l r left right first = (left.0, first_after d v r right first)
put_after d (x ∷ xs) v l r left right first = (left.0, put_after x.dot xs v l r left.1 right.1 first)

pub rise_put : (out : List VersionParts) (v : VersionParts) (l r : List VersionParts) → Rise (out ++ v ∷ l) → Rise (out ++ r) → IsFirst v.dot r → Rise (out ++ v ∷ r)
rise_put [] v l r left right first = first_rises v r right first
rise_put (x ∷ xs) v l r left right first = put_after x.dot xs v l r left right first

module _ (p : VersionParts → Bool) where
  filter_rises_after : (d : DotNumbers) (vs : List VersionParts) → RiseAfter d vs → RiseAfter d (filter p vs)
  filter_rises_after d [] rise = tt
  filter_rises_after d (v ∷ vs) rise =
      go (p v) (filter_rises_after v.dot vs rise.1) (filter_rises_after d vs (rise_earlier d v.dot vs rise.0 rise.1))
    where
      go : (b : Bool) → RiseAfter v.dot (filter p vs) → RiseAfter d (filter p vs) → RiseAfter d (cond b (v ∷ filter p vs) (filter p vs))
      go true kept left = (rise.0, kept)
      go false kept left = left

  pub filter_rises : (vs : List VersionParts) → Rise vs → Rise (filter p vs)
  filter_rises [] rise = tt
  filter_rises (v ∷ vs) rise = go (p v) (filter_rises_after v.dot vs rise) (filter_rises vs (tail_rises v vs rise))
    where
      go : (b : Bool) → RiseAfter v.dot (filter p vs) → Rise (filter p vs) → Rise (cond b (v ∷ filter p vs) (filter p vs))
      go true kept left = kept
      go false kept left = left

  pub any_of_filter : (t : VersionParts → Bool) (vs : List VersionParts) → list_any t vs ≡ false → list_any t (filter p vs) ≡ false
  any_of_filter t [] none = refl
  any_of_filter t (v ∷ vs) none = go (p v) (t v) refl none (any_of_filter t vs)
    where
      go : (b c : Bool) → t v ≡ c → (c || list_any t vs) ≡ false → (list_any t vs ≡ false → list_any t (filter p vs) ≡ false) → list_any t (cond b (v ∷ filter p vs) (filter p vs)) ≡ false
      go b true is e later = absurd (true≢false e)
      go true false is e later = ap (λ x. x || list_any t (filter p vs)) is ∙ later e
      go false false is e later = later e

-- the versions that are left once some are taken out are still a sibling set
pub filter_siblings : (p : VersionParts → Bool) (key : List ℕ) (vs : List VersionParts) → IsSiblingSet key vs → IsSiblingSet key (filter p vs)
filter_siblings p key vs s = record {
  of_key = All-filter p (λ v. v.key ≡ key) vs s.of_key;
  each_lacks = All-filter p IsVersion vs s.each_lacks;
  rise = filter_rises p vs s.rise;
  none_past =
      All-weaker (λ v. is_past vs v.dot ≡ false) (λ v. is_past (filter p vs) v.dot ≡ false)
      (λ v none. any_of_filter p (λ u. set.contains u.past v.dot) vs none)
      (filter p vs) (All-filter p (λ v. is_past vs v.dot ≡ false) vs s.none_past);
}

-- each version of a list that rises after a dot comes after it
pub after_all : (d : DotNumbers) (vs : List VersionParts) → RiseAfter d vs → (v : VersionParts) → Contains vs v → IsDotBefore d v.dot
after_all d [] rise v h = absurd (not_in_nil v h)
after_all d (x ∷ xs) rise v h =
    ⊎_elim
    (λ same. subst (λ y. IsDotBefore d y.dot) (sym same) rise.0)
    (λ later. before_trans d x.dot v.dot rise.0 (after_all x.dot xs rise.1 v later))
    (in_cases x v xs h)

not_both : (a b : DotNumbers) → IsDotBefore a b → IsDotBefore b a → ⊥
not_both a b p q = before_not_self a (before_trans a b a p q)

-- lists that rise and have the same versions are equal
pub same_rising : (s t : List VersionParts) → Rise s → Rise t → IsSameRow s t → s ≡ t
same_rising [] [] rise_s rise_t same = refl
same_rising [] (y ∷ ys) rise_s rise_t same = absurd (not_in_nil y ((same y).1 (in_head y ys)))
same_rising (x ∷ xs) [] rise_s rise_t same = absurd (not_in_nil x ((same x).0 (in_head x xs)))
same_rising (x ∷ xs) (y ∷ ys) rise_s rise_t same =
    (λ i. heads i ∷ same_rising xs ys (tail_rises x xs rise_s) (tail_rises y ys rise_t) (λ v. (forth v, back v)) i)
  where
    heads : x ≡ y
    heads =
        ⊎_elim
        (λ e. e)
        (λ x_later.
        ⊎_elim
        (λ e. sym e)
        (λ y_later. absurd (not_both x.dot y.dot (after_all x.dot xs rise_s y y_later) (after_all y.dot ys rise_t x x_later)))
        (in_cases x y xs ((same y).1 (in_head y ys))))
        (in_cases y x ys ((same x).0 (in_head x xs)))

    forth : (v : VersionParts) → Contains xs v → Contains ys v
    forth v h =
        ⊎_elim
        (λ e. absurd (before_not_self x.dot (subst (λ z. IsDotBefore x.dot z.dot) (e ∙ sym heads) (after_all x.dot xs rise_s v h))))
        (λ later. later)
        (in_cases y v ys ((same v).0 (in_tail x v xs h)))

    back : (v : VersionParts) → Contains ys v → Contains xs v
    back v h =
        ⊎_elim
        (λ e. absurd (before_not_self y.dot (subst (λ z. IsDotBefore y.dot z.dot) (e ∙ heads) (after_all y.dot ys rise_t v h))))
        (λ later. later)
        (in_cases x v xs ((same v).1 (in_tail y v ys h)))

-- in a list that rises, versions with one dot are one
pub one_in_rising : (vs : List VersionParts) → Rise vs → (u v : VersionParts) → Contains vs u → Contains vs v → u.dot ≡ v.dot → u ≡ v
one_in_rising [] rise u v in_u in_v same = absurd (not_in_nil u in_u)
one_in_rising (x ∷ xs) rise u v in_u in_v same =
    ⊎_elim
    (λ u_is.
    ⊎_elim
    (λ v_is. u_is ∙ sym v_is)
    (λ v_later. absurd (before_not_self x.dot (subst (IsDotBefore x.dot) (sym same ∙ ap (λ y. y.dot) u_is) (after_all x.dot xs rise v v_later))))
    (in_cases x v xs in_v))
    (λ u_later.
    ⊎_elim
    (λ v_is. absurd (before_not_self x.dot (subst (IsDotBefore x.dot) (same ∙ ap (λ y. y.dot) v_is) (after_all x.dot xs rise u u_later))))
    (λ v_later. one_in_rising xs (tail_rises x xs rise) u v u_later v_later same)
    (in_cases x v xs in_v))
    (in_cases x u xs in_u)

-- in a list that rises all before the last one come before it
module _ (v : VersionParts) where
  last_after : (d : DotNumbers) (out : List VersionParts) → RiseAfter d (out ++ v ∷ []) → IsDotBefore d v.dot
  last_after d [] rise = rise.0
  last_after d (x ∷ xs) rise = before_trans d x.dot v.dot rise.0 (last_after x.dot xs rise.1)

  before_last : (out : List VersionParts) → Rise (out ++ v ∷ []) → (u : VersionParts) → Contains out u → IsDotBefore u.dot v.dot
  before_last [] rise u h = absurd (not_in_nil u h)
  before_last (x ∷ xs) rise u h =
      ⊎_elim
      (λ same. subst (λ y. IsDotBefore y.dot v.dot) (sym same) (last_after x.dot xs rise))
      (λ later. before_last xs (tail_rises x (xs ++ v ∷ []) rise) u later)
      (in_cases x u xs h)

  pub all_before : (vs out : List VersionParts) → vs ≡ out ++ v ∷ [] → Rise vs → (d : DotNumbers) → IsDotBefore v.dot d → (u : VersionParts) → Contains vs u → IsDotBefore u.dot d
  all_before vs out is rise d last u h =
      ⊎_elim
      (λ early. before_trans u.dot v.dot d (before_last out (subst Rise is rise) u early) last)
      (λ here. ⊎_elim (λ same. subst (λ y. IsDotBefore y.dot d) (sym same) last) (λ none. absurd (not_in_nil u none)) (in_cases v u [] here))
      (Contains-append_cases out (v ∷ []) u (subst (λ l. Contains l u) is h))
