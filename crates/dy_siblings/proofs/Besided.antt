-- A row with one version more, side by side with all of it: the merge of both rows.
use Rattle.std.proofs.Common.{◌≡◌, ℕ, true, false, not, ◌||◌, List, [], ◌∷◌, ◌++◌, length, insert, drop, sym, ap, ◌∙◌, subst, ⊎_elim}
use Rattle.std.specs.List.{Contains, filter, list_any}
use Rattle.std.specs.FinSet as set
use Rattle.std.proofs.lemmas.Bool.{true≢false, cases_Bool, not_from_false, not-true, or_left, or_right}
use Rattle.std.proofs.lemmas.List.Elements.{All-contains, Contains-append_left, Contains-append_right, Contains-append_cases}
use Rattle.std.proofs.Math.Seq.{take-append_seam, drop-append_seam}
use Rattle.dy_dots.specs.Dots.{DotNumbers, IsDotBefore, same_dot}
use Rattle.dy_dots.proofs.SameDots.{same_dot_is, same_dot_self}
use Rattle.dy_siblings.specs.Versions.{VersionParts, IsVersion, precedes}
use Rattle.dy_siblings.specs.Siblings.{AreOneByDot, IsBeside, IsLone, IsSiblingSet, Rise, RiseAfter, is_past, without}
use Rattle.dy_siblings.specs.inside.Merging.{HasMore, IsMerge, IsPlaceOf}
use Rattle.dy_siblings.proofs.Members.{in_head, in_tail, in_cases, any_gives, any_from, none_from, filter_in, filter_from}
use Rattle.dy_siblings.proofs.Rising.{filter_rises, rise_put, same_rising}
use Rattle.dy_siblings.proofs.Lones.{has_it}

-- the only version of b that a lacks is one alone
pub lone_is : (a b : List VersionParts) (v x : VersionParts) → IsLone a b v → IsLone a b x → x ≡ v
lone_is a b v x is other =
    ⊎_elim (λ same. same) (λ has. absurd (true≢false (sym has ∙ other.not_in_a))) (is.others x other.in_b)

-- where it follows one of a, or is followed by one, no version stands beside all of a
pub none_beside : (a b : List VersionParts) (v : VersionParts) → IsLone a b v → list_any (λ u. precedes u v || precedes v u) a ≡ true → (x : VersionParts) → IsBeside a b x → ⊥
none_beside a b v is related x beside =
    true≢false (sym related ∙ ap (λ y. list_any (λ u. precedes u y || precedes y u) a) (sym (lone_is a b v x is beside.0)) ∙ beside.1)

-- all of a list come before v, which stands at its end
last_after : (d : DotNumbers) (front back : List VersionParts) (v : VersionParts) → RiseAfter d (front ++ back) → ((u : VersionParts) → Contains front u → IsDotBefore u.dot v.dot) → IsDotBefore d v.dot → RiseAfter d (front ++ v ∷ [])
last_after d [] back v rise all first = (first, tt)
last_after d (x ∷ xs) back v rise all first =
    (rise.0, last_after x.dot xs back v rise.1 (λ u h. all u (in_tail x u xs h)) (all x (in_head x xs)))

rise_last : (front back : List VersionParts) (v : VersionParts) → Rise (front ++ back) → ((u : VersionParts) → Contains front u → IsDotBefore u.dot v.dot) → Rise (front ++ v ∷ [])
rise_last [] back v rise all = tt
rise_last (x ∷ xs) back v rise all = last_after x.dot xs back v rise (λ u h. all u (in_tail x u xs h)) (all x (in_head x xs))

-- a version that is put at its place
pub put_at_place : (vs : List VersionParts) (v : VersionParts) (at : ℕ) → Rise vs → IsPlaceOf vs v.dot at → HasMore vs v (insert vs at v)
put_at_place vs v at rise p = subst (HasMore vs v) (sym insert_is) (rises, λ u. (forth u, back u))
  where
    insert_is : insert vs at v ≡ p.front ++ v ∷ p.back
    insert_is =
        ap (λ n. insert vs n v) (sym p.length_is) ∙ ap (λ l. insert l (length p.front) v) p.both
        ∙ ap (λ l. l ++ v ∷ drop (length p.front) (p.front ++ p.back)) (take-append_seam p.front p.back)
        ∙ ap (λ l. p.front ++ v ∷ l) (drop-append_seam p.front p.back)

    rises : Rise (p.front ++ v ∷ p.back)
    rises =
        rise_put p.front v [] p.back
        (rise_last p.front p.back v (subst Rise p.both rise) p.before) (subst Rise p.both rise) p.after

    forth : (u : VersionParts) → Contains (p.front ++ v ∷ p.back) u → Contains (v ∷ vs) u
    forth u h =
        ⊎_elim
        (λ l. in_tail v u vs (subst (λ x. Contains x u) (sym p.both) (Contains-append_left p.front p.back u l)))
        (λ r.
        ⊎_elim
        (λ same. subst (Contains (v ∷ vs)) (sym same) (in_head v vs))
        (λ later. in_tail v u vs (subst (λ x. Contains x u) (sym p.both) (Contains-append_right p.front p.back u later)))
        (in_cases v u p.back r))
        (Contains-append_cases p.front (v ∷ p.back) u h)

    back : (u : VersionParts) → Contains (v ∷ vs) u → Contains (p.front ++ v ∷ p.back) u
    back u h =
        ⊎_elim
        (λ same. Contains-append_right p.front (v ∷ p.back) u (subst (Contains (v ∷ p.back)) (sym same) (in_head v p.back)))
        (λ later.
        ⊎_elim
        (λ l. Contains-append_left p.front (v ∷ p.back) u l)
        (λ r. Contains-append_right p.front (v ∷ p.back) u (in_tail v u p.back r))
        (Contains-append_cases p.front p.back u (subst (λ x. Contains x u) p.both later)))
        (in_cases v u vs h)

module _ (a b : List VersionParts) (v : VersionParts) (is : IsBeside a b v) (more : List VersionParts) (has : HasMore a v more) where
  -- without the version it is the row as it was
  pub taken_back : Rise a → without more v.dot ≡ a
  taken_back rise =
      same_rising (without more v.dot) a (filter_rises (λ u. not (same_dot u.dot v.dot)) more has.0) rise (λ u. (forth u, back u))
    where
      forth : (u : VersionParts) → Contains (without more v.dot) u → Contains a u
      forth u h =
          let f = filter_from (λ x. not (same_dot x.dot v.dot)) more u h in
          ⊎_elim
          (λ same. absurd (true≢false (sym (subst (λ x. same_dot x.dot v.dot ≡ true) (sym same) (same_dot_self v.dot)) ∙ not-true (same_dot u.dot v.dot) f.1)))
          (λ old. old)
          (in_cases v u a ((has.1 u).0 f.0))

      back : (u : VersionParts) → Contains a u → Contains (without more v.dot) u
      back u h =
          filter_in (λ x. not (same_dot x.dot v.dot)) more u ((has.1 u).1 (in_tail v u a h))
          (not_from_false (same_dot u.dot v.dot) (other u h))
        where
          other : (u : VersionParts) → Contains a u → same_dot u.dot v.dot ≡ false
          other u h =
              ⊎_elim
              (λ same. absurd (true≢false (sym (has_it a v.dot u h (same_dot_is u.dot v.dot same)) ∙ is.0.not_in_a)))
              (λ apart. apart)
              (cases_Bool (same_dot u.dot v.dot))

  -- and it is the merge
  pub beside_merges : (key : List ℕ) → IsSiblingSet key a → IsSiblingSet key b → AreOneByDot (a ++ b) → IsMerge a b more
  beside_merges key row_a row_b one = (has.0, λ u. (forth u, back u))
    where
      in_more : (x : VersionParts) → Contains (a ++ b) x → Contains (v ∷ a) x
      in_more x h =
          ⊎_elim
          (λ in_a. in_tail v x a in_a)
          (λ in_b.
          ⊎_elim
          (λ same. subst (Contains (v ∷ a)) (sym same) (in_head v a))
          (λ by_dot.
          let y = any_gives (λ u. same_dot u.dot x.dot) a by_dot in
          in_tail v x a (subst (Contains a)
          (one y.item x (Contains-append_left a b y.item y.in_list) h (same_dot_is y.item.dot x.dot y.passes)) y.in_list))
          (is.0.others x in_b))
          (Contains-append_cases a b x h)

      unrelated : (u : VersionParts) → Contains a u → (precedes u v || precedes v u) ≡ true → ⊥
      unrelated u h related = true≢false (sym (any_from (λ x. precedes x v || precedes v x) a u h related) ∙ is.1)

      apart : (u x : VersionParts) → Contains (v ∷ a) u → Contains (v ∷ a) x → set.contains x.past u.dot ≡ true → ⊥
      apart u x in_u in_x below =
          ⊎_elim
          (λ u_is.
          ⊎_elim
          (λ x_is. true≢false (sym (subst (λ y. set.contains x.past y.dot ≡ true) u_is below) ∙ ap (λ y. set.contains y.past v.dot) x_is ∙ All-contains IsVersion b v row_b.each_lacks is.0.in_b))
          (λ x_in. unrelated x x_in (or_right (precedes x v) (precedes v x) (subst (λ y. set.contains x.past y.dot ≡ true) u_is below)))
          (in_cases v x a in_x))
          (λ u_in.
          ⊎_elim
          (λ x_is. unrelated u u_in (or_left (precedes u v) (precedes v u) (subst (λ y. set.contains y.past u.dot ≡ true) x_is below)))
          (λ x_in. true≢false (sym (any_from (λ y. set.contains y.past u.dot) a x x_in below) ∙ All-contains (λ y. is_past a y.dot ≡ false) a u row_a.none_past u_in))
          (in_cases v x a in_x))
          (in_cases v u a in_u)

      forth : (u : VersionParts) → Contains more u → Contains (filter (λ x. not (is_past (a ++ b) x.dot)) (a ++ b)) u
      forth u h =
          filter_in (λ x. not (is_past (a ++ b) x.dot)) (a ++ b) u (both ((has.1 u).0 h))
          (not_from_false (is_past (a ++ b) u.dot)
          (none_from (λ x. set.contains x.past u.dot) (a ++ b) (λ x in_both below. apart u x ((has.1 u).0 h) (in_more x in_both) below)))
        where
          both : Contains (v ∷ a) u → Contains (a ++ b) u
          both k =
              ⊎_elim
              (λ same. subst (Contains (a ++ b)) (sym same) (Contains-append_right a b v is.0.in_b))
              (λ old. Contains-append_left a b u old)
              (in_cases v u a k)

      back : (u : VersionParts) → Contains (filter (λ x. not (is_past (a ++ b) x.dot)) (a ++ b)) u → Contains more u
      back u h = (has.1 u).1 (in_more u (filter_from (λ x. not (is_past (a ++ b) x.dot)) (a ++ b) u h).0)
