-- Which versions of two lists that rise conflict, where one pass goes over both.
use Rattle.std.proofs.Common.{◌≡◌, false, ◌||◌, List, [], ◌∷◌, refl, sym, ap, ◌∙◌, subst, ⊎_elim, not}
use Rattle.std.specs.List.{list_any}
use Rattle.std.proofs.lemmas.Bool.{and_parts, cases_Bool}
use Rattle.dy_dots.specs.Dots.{IsDotBefore, same_dot}
use Rattle.dy_siblings.specs.Versions.{VersionParts}
use Rattle.dy_siblings.specs.inside.Conflicts.{same_version, do_conflict}
use Rattle.dy_siblings.specs.Siblings.{Rise, RiseAfter}
use Rattle.dy_siblings.specs.inside.Merging.{do_lists_conflict}
use Rattle.dy_siblings.proofs.Members.{none_from}
use Rattle.dy_dots.proofs.SameDots.{same_dot_is}
use Rattle.dy_siblings.proofs.Rising.{after_all, before_not_self, rise_earlier, tail_rises}

-- what is left of both lists conflicts where the whole lists do
pub record Compares (a b left right : List VersionParts) : Type 0 where
  pub left_rises : Rise left
  pub right_rises : Rise right
  pub same : do_lists_conflict left right ≡ do_lists_conflict a b

-- versions of two dots do not conflict
apart : (u v : VersionParts) → (u.dot ≡ v.dot → ⊥) → do_conflict u v ≡ false
apart u v two =
    ⊎_elim
    (λ yes. absurd (two (same_dot_is u.dot v.dot (and_parts (same_dot u.dot v.dot) (not (same_version u v)) yes).0)))
    (λ no. no)
    (cases_Bool (do_conflict u v))

-- a version conflicts with none that comes later
none_later : (u : VersionParts) (vs : List VersionParts) → RiseAfter u.dot vs → list_any (λ v. do_conflict u v) vs ≡ false
none_later u vs rise =
    none_from (λ v. do_conflict u v) vs (λ v in_vs yes.
    let same = same_dot_is u.dot v.dot (and_parts (same_dot u.dot v.dot) (not (same_version u v)) yes).0 in
    before_not_self u.dot (subst (IsDotBefore u.dot) (sym same) (after_all u.dot vs rise v in_vs)))

-- the first of the left list comes before all of the right one
drop_left : (u : VersionParts) (us vs : List VersionParts) → RiseAfter u.dot vs → do_lists_conflict (u ∷ us) vs ≡ do_lists_conflict us vs
drop_left u us vs rise = ap (λ x. x || do_lists_conflict us vs) (none_later u vs rise)

-- the first of the right list comes before all of the left one
drop_right : (v : VersionParts) (us vs : List VersionParts) → RiseAfter v.dot us → do_lists_conflict us (v ∷ vs) ≡ do_lists_conflict us vs
drop_right v [] vs rise = refl
drop_right v (u ∷ us) vs rise =
    ap (λ x. (x || list_any (λ w. do_conflict u w) vs) || do_lists_conflict us (v ∷ vs)) (apart u v (λ same. before_not_self v.dot (subst (IsDotBefore v.dot) same rise.0)))
    ∙ ap (λ y. list_any (λ w. do_conflict u w) vs || y) (drop_right v us vs (rise_earlier v.dot u.dot us rise.0 rise.1))

-- the first ones have one dot
drop_both : (u v : VersionParts) (us vs : List VersionParts) → RiseAfter u.dot us → RiseAfter v.dot vs → u.dot ≡ v.dot → do_conflict u v ≡ false → do_lists_conflict (u ∷ us) (v ∷ vs) ≡ do_lists_conflict us vs
drop_both u v us vs rise_us rise_vs same none =
    ap (λ x. (x || list_any (λ w. do_conflict u w) vs) || do_lists_conflict us (v ∷ vs)) none
    ∙ ap (λ x. x || do_lists_conflict us (v ∷ vs)) (none_later u vs (subst (λ d. RiseAfter d vs) (sym same) rise_vs))
    ∙ drop_right v us vs (subst (λ d. RiseAfter d us) same rise_us)

none_right : (us : List VersionParts) → do_lists_conflict us [] ≡ false
none_right [] = refl
none_right (u ∷ us) = none_right us

module _ (a b left right : List VersionParts) (u v : VersionParts) (us vs : List VersionParts) where
  pub compares_left : Compares a b left right → left ≡ u ∷ us → right ≡ v ∷ vs → IsDotBefore u.dot v.dot → Compares a b us right
  compares_left c l r before = record {
    left_rises = tail_rises u us (subst Rise l c.left_rises);
    right_rises = c.right_rises;
    same =
        sym (drop_left u us right (subst (RiseAfter u.dot) (sym r) (before, subst Rise r c.right_rises)))
        ∙ ap (λ x. do_lists_conflict x right) (sym l)
        ∙ c.same;
  }

  pub compares_right : Compares a b left right → left ≡ u ∷ us → right ≡ v ∷ vs → IsDotBefore v.dot u.dot → Compares a b left vs
  compares_right c l r before = record {
    left_rises = c.left_rises;
    right_rises = tail_rises v vs (subst Rise r c.right_rises);
    same =
        sym (drop_right v left vs (subst (RiseAfter v.dot) (sym l) (before, subst Rise l c.left_rises)))
        ∙ ap (do_lists_conflict left) (sym r)
        ∙ c.same;
  }

  pub compares_both : Compares a b left right → left ≡ u ∷ us → right ≡ v ∷ vs → u.dot ≡ v.dot → do_conflict u v ≡ false → Compares a b us vs
  compares_both c l r same none = record {
    left_rises = tail_rises u us (subst Rise l c.left_rises);
    right_rises = tail_rises v vs (subst Rise r c.right_rises);
    same =
        sym (drop_both u v us vs (subst Rise l c.left_rises) (subst Rise r c.right_rises) same none)
        ∙ ap (λ x. do_lists_conflict x (v ∷ vs)) (sym l)
        ∙ ap (do_lists_conflict left) (sym r)
        ∙ c.same;
  }

-- the right list is at its end
pub compares_right_end : (a b left right : List VersionParts) → Compares a b left right → right ≡ [] → false ≡ do_lists_conflict a b
compares_right_end a b left right c r = sym (none_right left) ∙ ap (do_lists_conflict left) (sym r) ∙ c.same
