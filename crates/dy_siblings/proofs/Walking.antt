-- One pass over two lists of versions in the order of their dots.
use Rattle.std.proofs.Common.{◌≡◌, ℕ, Bool, true, false, not, List, [], ◌∷◌, ◌++◌, ◌||◌, ◌⊎◌, ◌<◌, ◌+◌, length, arith, sym, ap, ◌∙◌, subst, inl, inr, ⊎_elim, append_assoc, append-nil}
use Rattle.std.specs.List.{filter, Contains, All}
use Rattle.std.specs.FinSet as set
use Rattle.std.proofs.lemmas.Bool.{true≢false, not-true, not_from_false}
use Rattle.std.proofs.lemmas.List.Elements.{All-contains, All-weaker, All-contains_itself, Contains-append_left, Contains-append_right, Contains-append_cases}
use Rattle.std.proofs.lemmas.List.Folds.{list_any-append}
use Rattle.dy_dots.specs.Dots.{DotNumbers, DotSet, dot_cmp}
use Rattle.dy_siblings.specs.Versions.{VersionParts, IsVersion}
use Rattle.dy_siblings.specs.Siblings.{AreOneByDot, IsSameRow, IsSiblingSet, Rise, is_past}
use Rattle.dy_siblings.specs.inside.Merging.{AreAmong, IsFirst, IsAlone, IsShared, IsMerge, IsNextVersion, IsUnionOutside, both_pasts, with_pasts}
use Rattle.dy_siblings.proofs.Members.{not_in_nil, in_head, in_tail, in_cases, none_from, any_from, filter_in, filter_from}
use Rattle.dy_siblings.proofs.Histories.{in_with_pasts}
use Rattle.dy_siblings.proofs.Rising.{rise_skip, rise_put}

-- the version is kept where the set lacks its dot
abbrev pub Kept : DotSet → List VersionParts → VersionParts → List VersionParts → Type 0
Kept past out v new =
    ((set.contains past v.dot ≡ true) × (new ≡ out)) ⊎ ((set.contains past v.dot ≡ false) × (new ≡ out ++ v ∷ []))

-- how far the pass has come: what is kept, and what is left of both lists
pub record Walks (past : DotSet) (a b out left right : List VersionParts) : Type 0 where
  pub rise_left : Rise (out ++ left)
  pub rise_right : Rise (out ++ right)
  pub from_left : (v : VersionParts) → Contains left v → Contains a v
  pub from_right : (v : VersionParts) → Contains right v → Contains b v
  pub sound : (v : VersionParts) → Contains out v → Contains (a ++ b) v × (set.contains past v.dot ≡ false)
  pub complete : (v : VersionParts) → Contains (a ++ b) v → set.contains past v.dot ≡ false → Contains out v ⊎ (Contains left v ⊎ Contains right v)

pub walks_first : (past : DotSet) (a b out : List VersionParts) → out ≡ [] → Rise a → Rise b → Walks past a b out a b
walks_first past a b out none rise_a rise_b =
    subst (λ l. Walks past a b l a b) (sym none) (record {
      rise_left = rise_a;
      rise_right = rise_b;
      from_left = λ v h. h;
      from_right = λ v h. h;
      sound = λ v h. absurd (not_in_nil v h);
      complete = λ v h e. inr (Contains-append_cases a b v h);
    })

module _ (past : DotSet) (out : List VersionParts) (v : VersionParts) where
  kept_in : (new : List VersionParts) → Kept past out v new → (u : VersionParts) → Contains out u → Contains new u
  kept_in new (inl k) u h = subst (λ l. Contains l u) (sym k.1) h
  kept_in new (inr k) u h = subst (λ l. Contains l u) (sym k.1) (Contains-append_left out (v ∷ []) u h)

  kept_self : (new : List VersionParts) → Kept past out v new → set.contains past v.dot ≡ false → Contains new v
  kept_self new (inl k) e = absurd (true≢false (sym k.0 ∙ e))
  kept_self new (inr k) e = subst (λ l. Contains l v) (sym k.1) (Contains-append_right out (v ∷ []) v (in_head v []))

  kept_from : (new : List VersionParts) → Kept past out v new → (u : VersionParts) → Contains new u → Contains out u ⊎ ((u ≡ v) × (set.contains past v.dot ≡ false))
  kept_from new (inl k) u h = inl (subst (λ l. Contains l u) k.1 h)
  kept_from new (inr k) u h =
      ⊎_elim
      (λ before. inl before)
      (λ last. inr (⊎_elim (λ same. same) (λ none. absurd (not_in_nil u none)) (in_cases v u [] last), k.0))
      (Contains-append_cases out (v ∷ []) u (subst (λ l. Contains l u) k.1 h))

  kept_rise : (new l : List VersionParts) → Kept past out v new → Rise (out ++ v ∷ l) → Rise (new ++ l)
  kept_rise new l (inl k) rise = subst (λ o. Rise (o ++ l)) (sym k.1) (rise_skip out v l rise)
  kept_rise new l (inr k) rise = subst (λ o. Rise (o ++ l)) (sym k.1) (subst Rise (sym (append_assoc out (v ∷ []) l)) rise)

  kept_other : (new l r : List VersionParts) → Kept past out v new → Rise (out ++ v ∷ l) → Rise (out ++ r) → IsFirst v.dot r → Rise (new ++ r)
  kept_other new l r (inl k) left right first = subst (λ o. Rise (o ++ r)) (sym k.1) right
  kept_other new l r (inr k) left right first =
      subst (λ o. Rise (o ++ r)) (sym k.1) (subst Rise (sym (append_assoc out (v ∷ []) r)) (rise_put out v l r left right first))

module _ (past : DotSet) (a b out left right : List VersionParts) (v : VersionParts) (new l r : List VersionParts) where
  alone_left : Walks past a b out left right → IsAlone left right v l r → Kept past out v new → Walks past a b new l r
  alone_left w next k = record {
    rise_left = kept_rise past out v new l k (subst (λ x. Rise (out ++ x)) next.0 w.rise_left);
    rise_right = subst (λ x. Rise (new ++ x)) next.1 (kept_other past out v new l right k (subst (λ x. Rise (out ++ x)) next.0 w.rise_left) w.rise_right next.2);
    from_left = λ u h. w.from_left u (subst (λ x. Contains x u) (sym next.0) (in_tail v u l h));
    from_right = λ u h. w.from_right u (subst (λ x. Contains x u) (sym next.1) h);
    sound = λ u h.
        ⊎_elim
        (λ before. w.sound u before)
        (λ last. (
          Contains-append_left a b u (w.from_left u (subst (λ x. Contains x u) (sym next.0) (subst (Contains (v ∷ l)) (sym last.0) (in_head v l)))),
          ap (λ x. set.contains past x.dot) last.0 ∙ last.1,
        ))
        (kept_from past out v new k u h);
    complete = λ u h e.
        ⊎_elim
        (λ before. inl (kept_in past out v new k u before))
        (λ rest.
        ⊎_elim
        (λ in_left.
        ⊎_elim
        (λ same. inl (subst (Contains new) (sym same) (kept_self past out v new k (ap (λ x. set.contains past x.dot) (sym same) ∙ e))))
        (λ later. inr (inl later))
        (in_cases v u l (subst (λ x. Contains x u) next.0 in_left)))
        (λ in_right. inr (inr (subst (λ x. Contains x u) next.1 in_right)))
        rest)
        (w.complete u h e);
  }

  alone_right : Walks past a b out left right → IsAlone right left v r l → Kept past out v new → Walks past a b new l r
  alone_right w next k = record {
    rise_left = subst (λ x. Rise (new ++ x)) next.1 (kept_other past out v new r left k (subst (λ x. Rise (out ++ x)) next.0 w.rise_right) w.rise_left next.2);
    rise_right = kept_rise past out v new r k (subst (λ x. Rise (out ++ x)) next.0 w.rise_right);
    from_left = λ u h. w.from_left u (subst (λ x. Contains x u) (sym next.1) h);
    from_right = λ u h. w.from_right u (subst (λ x. Contains x u) (sym next.0) (in_tail v u r h));
    sound = λ u h.
        ⊎_elim
        (λ before. w.sound u before)
        (λ last. (
          Contains-append_right a b u (w.from_right u (subst (λ x. Contains x u) (sym next.0) (subst (Contains (v ∷ r)) (sym last.0) (in_head v r)))),
          ap (λ x. set.contains past x.dot) last.0 ∙ last.1,
        ))
        (kept_from past out v new k u h);
    complete = λ u h e.
        ⊎_elim
        (λ before. inl (kept_in past out v new k u before))
        (λ rest.
        ⊎_elim
        (λ in_left. inr (inl (subst (λ x. Contains x u) next.1 in_left)))
        (λ in_right.
        ⊎_elim
        (λ same. inl (subst (Contains new) (sym same) (kept_self past out v new k (ap (λ x. set.contains past x.dot) (sym same) ∙ e))))
        (λ later. inr (inr later))
        (in_cases v u r (subst (λ x. Contains x u) next.0 in_right)))
        rest)
        (w.complete u h e);
  }

  shared : AreOneByDot (a ++ b) → Walks past a b out left right → IsShared left right v l r → Kept past out v new → Walks past a b new l r
  shared one w next k = record {
    rise_left = kept_rise past out v new l k (subst (λ x. Rise (out ++ x)) next.0 w.rise_left);
    rise_right = kept_rise past out v new r k (subst (λ x. Rise (out ++ x)) right_is w.rise_right);
    from_left = λ u h. w.from_left u (subst (λ x. Contains x u) (sym next.0) (in_tail v u l h));
    from_right = λ u h. w.from_right u (subst (λ x. Contains x u) (sym right_is) (in_tail v u r h));
    sound = λ u h.
        ⊎_elim
        (λ before. w.sound u before)
        (λ last. (subst (Contains (a ++ b)) (sym last.0) here, ap (λ x. set.contains past x.dot) last.0 ∙ last.1))
        (kept_from past out v new k u h);
    complete = λ u h e.
        ⊎_elim
        (λ before. inl (kept_in past out v new k u before))
        (λ rest.
        ⊎_elim
        (λ in_left. ⊎_elim (λ same. inl (mine u e same)) (λ later. inr (inl later)) (in_cases v u l (subst (λ x. Contains x u) next.0 in_left)))
        (λ in_right. ⊎_elim (λ same. inl (mine u e same)) (λ later. inr (inr later)) (in_cases v u r (subst (λ x. Contains x u) right_is in_right)))
        rest)
        (w.complete u h e);
  }
    where
      other : VersionParts
      other = next.1.0

      here : Contains (a ++ b) v
      here = Contains-append_left a b v (w.from_left v (subst (λ x. Contains x v) (sym next.0) (in_head v l)))

      there : Contains (a ++ b) other
      there = Contains-append_right a b other (w.from_right other (subst (λ x. Contains x other) (sym next.1.1) (in_head other r)))

      right_is : right ≡ v ∷ r
      right_is = next.1.1 ∙ ap (λ x. x ∷ r) (one other v there here next.1.2)

      mine : (u : VersionParts) → set.contains past u.dot ≡ false → u ≡ v → Contains new u
      mine u e same = subst (Contains new) (sym same) (kept_self past out v new k (ap (λ x. set.contains past x.dot) (sym same) ∙ e))

  pub walks_on : AreOneByDot (a ++ b) → Walks past a b out left right → IsNextVersion left right v l r → Kept past out v new → Walks past a b new l r
  walks_on one w (inl next) k = alone_left w next k
  walks_on one w (inr (inl next)) k = alone_right w next k
  walks_on one w (inr (inr next)) k = shared one w next k

-- what is left of both is shorter by one at least
pub next_shorter : (a b l r : List VersionParts) (v : VersionParts) → IsNextVersion a b v l r → length l + length r < length a + length b
next_shorter a b l r v (inl next) = omega (arith, ap length next.0, ap length next.1)
next_shorter a b l r v (inr (inl next)) = omega (arith, ap length next.0, ap length next.1)
next_shorter a b l r v (inr (inr next)) = omega (arith, ap length next.0, ap length next.1.1)

pub walks_end : (past : DotSet) (a b out left right : List VersionParts) → left ≡ [] → right ≡ [] → Walks past a b out left right → IsUnionOutside past a b out
walks_end past a b out left right no_left no_right w = (
  subst Rise (append-nil out) (subst (λ l. Rise (out ++ l)) no_left w.rise_left),
  λ v. (
    (λ h. let s = w.sound v h in filter_in (λ u. not (set.contains past u.dot)) (a ++ b) v s.0 (not_from_false (set.contains past v.dot) s.1)),
    (λ h.
        let f = filter_from (λ u. not (set.contains past u.dot)) (a ++ b) v h in
        ⊎_elim
        (λ found. found)
        (λ rest.
        ⊎_elim
        (λ l. absurd (not_in_nil v (subst (λ x. Contains x v) no_left l)))
        (λ r. absurd (not_in_nil v (subst (λ x. Contains x v) no_right r)))
        rest)
        (w.complete v f.0 (not-true (set.contains past v.dot) f.1))),
  ),
)

-- how far a search has come for the dots of a among those of b, and what is left of both lists
pub record Finds (a b left right : List VersionParts) : Type 0 where
  pub found : (v : VersionParts) → Contains a v → Contains left v ⊎ ((w : VersionParts) × Contains b w × (w.dot ≡ v.dot))
  pub from_right : (v : VersionParts) → Contains right v → Contains b v

pub finds_first : (a b : List VersionParts) → Finds a b a b
finds_first a b = record { found = λ v h. inl h; from_right = λ v h. h }

-- the first of both is of one dot, or the first of b is passed over
pub finds_one : (a b : List VersionParts) (v w : VersionParts) (left right l r : List VersionParts) → left ≡ v ∷ l → right ≡ w ∷ r → v.dot ≡ w.dot → Finds a b left right → Finds a b l r
finds_one a b v w left right l r left_is right_is same f = record {
  found = λ u h.
      ⊎_elim
      (λ still. ⊎_elim
      (λ is. inr (w, f.from_right w (subst (λ x. Contains x w) (sym right_is) (in_head w r)), sym (ap (λ x. x.dot) is ∙ same)))
      inl
      (in_cases v u l (subst (λ x. Contains x u) left_is still)))
      inr
      (f.found u h);
  from_right = λ u h. f.from_right u (subst (λ x. Contains x u) (sym right_is) (in_tail w u r h));
}

pub finds_on : (a b : List VersionParts) (w : VersionParts) (left right r : List VersionParts) → right ≡ w ∷ r → Finds a b left right → Finds a b left r
finds_on a b w left right r right_is f = record {
  found = f.found;
  from_right = λ u h. f.from_right u (subst (λ x. Contains x u) (sym right_is) (in_tail w u r h));
}

pub finds_end : (a b left right : List VersionParts) → left ≡ [] → Finds a b left right → AreAmong a b
finds_end a b left right none f v h =
    ⊎_elim (λ still. absurd (not_in_nil v (subst (λ x. Contains x v) none still))) (λ found. found) (f.found v h)

-- where the dots of a are among those of b, the merge of both is b
pub among_is_merge : (a b : List VersionParts) → AreOneByDot (a ++ b) → Rise b → All (λ v. is_past b v.dot ≡ false) b → AreAmong a b → IsMerge a b b
among_is_merge a b one rise none among = (
  rise,
  λ v. (
    (λ h. filter_in (λ u. not (is_past (a ++ b) u.dot)) (a ++ b) v (Contains-append_right a b v h)
        (not_from_false (is_past (a ++ b) v.dot) (none_from (λ u. set.contains u.past v.dot) (a ++ b) (λ u in_both below.
        true≢false (sym (any_from (λ u. set.contains u.past v.dot) b u (in_b u in_both) below) ∙ All-contains (λ x. is_past b x.dot ≡ false) b v none h))))),
    (λ h. in_b v (filter_from (λ u. not (is_past (a ++ b) u.dot)) (a ++ b) v h).0),
  ),
)
  where
    in_b : (u : VersionParts) → Contains (a ++ b) u → Contains b u
    in_b u h =
        ⊎_elim
        (λ in_a.
        let w = among u in_a in
        subst (Contains b) (one w.0 u (Contains-append_right a b w.0 w.1) h w.2) w.1)
        (λ there. there)
        (Contains-append_cases a b u h)

-- what the one list's pasts have, or the other's
pub past_of_either : (a b : List VersionParts) (d : DotNumbers) → set.contains (both_pasts a b) d ≡ (is_past a d || is_past b d)
past_of_either a b d =
    in_with_pasts (with_pasts set.empty a) b d
    ∙ ap (λ x. x || is_past b d) (in_with_pasts set.empty a d ∙ ap (λ x. x || is_past a d) (set.contains-empty dot_cmp d))

-- the answer for the one list where it is true, and else that for the other
module _ (all : DotSet) (a b : List VersionParts) (d : DotNumbers) (one : Bool) (same : both_pasts a b ≡ all) (is : one ≡ is_past a d) where
  pub past_of_one : one ≡ true → one ≡ set.contains all d
  past_of_one is_true =
      is_true ∙ sym (ap (λ x. x || is_past b d) (sym is ∙ is_true))
      ∙ sym (past_of_either a b d) ∙ ap (λ x. set.contains x d) same

  pub past_of_other : (other : Bool) → one ≡ false → other ≡ is_past b d → other ≡ set.contains all d
  past_of_other other is_false its =
      its ∙ sym (ap (λ x. x || is_past b d) (sym is ∙ is_false))
      ∙ sym (past_of_either a b d) ∙ ap (λ x. set.contains x d) same

-- the pasts of both lists
pub past_is : (a b : List VersionParts) (d : DotNumbers) → set.contains (both_pasts a b) d ≡ is_past (a ++ b) d
past_is a b d = past_of_either a b d ∙ sym (list_any-append (λ v. set.contains v.past d) a b)

-- what is kept outside the pasts of both lists is their merge
pub kept_is_merge : (past : DotSet) (a b kept : List VersionParts) → past ≡ both_pasts a b → IsUnionOutside past a b kept → IsMerge a b kept
kept_is_merge past a b kept same union =
    (union.0, subst (IsSameRow kept) (ap (λ t. filter t (a ++ b)) (λ i v. not (is v.dot i))) union.1)
  where
    is : (d : DotNumbers) → set.contains past d ≡ is_past (a ++ b) d
    is d = ap (λ s. set.contains s d) same ∙ past_is a b d

-- the merge of two sibling sets of a key is a sibling set
module _ (key : List ℕ) (a b kept : List VersionParts) (is : IsMerge a b kept) where
  kept_member : (v : VersionParts) → Contains kept v → Contains (a ++ b) v × (is_past (a ++ b) v.dot ≡ false)
  kept_member v h =
      let f = filter_from (λ u. not (is_past (a ++ b) u.dot)) (a ++ b) v ((is.1 v).0 h) in
      (f.0, not-true (is_past (a ++ b) v.dot) f.1)

  of_either : (P : VersionParts → Type 0) → All P a → All P b → All P kept
  of_either P all_a all_b =
      All-weaker (Contains kept) P
      (λ v h. ⊎_elim (All-contains P a v all_a) (All-contains P b v all_b) (Contains-append_cases a b v (kept_member v h).0))
      kept (All-contains_itself kept)

  pub merge_siblings : IsSiblingSet key a → IsSiblingSet key b → IsSiblingSet key kept
  merge_siblings s t = record {
    of_key = of_either (λ v. v.key ≡ key) s.of_key t.of_key;
    each_lacks = of_either IsVersion s.each_lacks t.each_lacks;
    rise = is.0;
    none_past =
        All-weaker (Contains kept) (λ v. is_past kept v.dot ≡ false)
        (λ v h. none_from (λ u. set.contains u.past v.dot) kept (λ u in_kept below.
        true≢false (sym (any_from (λ u. set.contains u.past v.dot) (a ++ b) u (kept_member u in_kept).0 below) ∙ (kept_member v h).1)))
        kept (All-contains_itself kept);
  }
