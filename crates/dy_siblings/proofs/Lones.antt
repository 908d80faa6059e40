-- The one version that a row has more than another.
use Rattle.std.proofs.Common.{Bool, ◌||◌, ◌≡◌, ◌-◌, ℕ, true, false, List, [], ◌∷◌, ◌++◌, Option, Some, None, ◌⊎◌, length, length-append, option_map, is_some, refl, sym, ap, ◌∙◌, subst, inl, inr, ⊎_elim, append_assoc, arith}
use Rattle.std.specs.Prelude.{IfSome, IfNone}
use Rattle.std.specs.List.{Contains, list_any}
use Rattle.std.proofs.lemmas.Bool.{true≢false}
use Rattle.std.proofs.lemmas.List.{append-nil}
use Rattle.std.proofs.lemmas.List.Elements.{Contains-append_right, Contains-append_cases}
use Rattle.dy_dots.specs.Dots.{DotNumbers, IsDotBefore, same_dot}
use Rattle.dy_dots.proofs.SameDots.{same_dot_is, same_dot_self}
use Rattle.dy_siblings.specs.Versions.{VersionParts}
use Rattle.dy_siblings.specs.Siblings.{IsLone, Rise, has_dot}
use Rattle.dy_siblings.specs.inside.Merging.{IsFirst, IsPlaceOf}
use Rattle.dy_siblings.proofs.Members.{not_in_nil, in_head, in_tail, in_cases, any_from, none_from}
use Rattle.dy_siblings.proofs.Rising.{before_trans, before_not_self, after_all, tail_rises}

-- the dots are those of one version of a, or of none
module _ (a : List VersionParts) (d : DotNumbers) where
  pub has_it : (u : VersionParts) → Contains a u → u.dot ≡ d → has_dot a d ≡ true
  has_it u h same = any_from (λ v. same_dot v.dot d) a u h (subst (λ e. same_dot u.dot e ≡ true) same (same_dot_self u.dot))

  pub lacks_it : ((u : VersionParts) → Contains a u → u.dot ≡ d → ⊥) → has_dot a d ≡ false
  lacks_it none = none_from (λ v. same_dot v.dot d) a (λ u h yes. none u h (same_dot_is u.dot d yes))

-- the version is new to a, has this place there, and comes before all that is left
pub record IsNew (a b right : List VersionParts) (at : ℕ) (v : VersionParts) : Type 0 where
  pub in_b : Contains b v
  pub not_in_a : has_dot a v.dot ≡ false
  pub place : IsPlaceOf a v.dot at
  pub first : (w : VersionParts) → Contains right w → IsDotBefore v.dot w.dot

-- what is known of a version of b that was passed over
abbrev pub IsKnown : List VersionParts → Option (ℕ × VersionParts) → VersionParts → Type 0
IsKnown a None w = has_dot a w.dot ≡ true
IsKnown a (Some p) w = (w ≡ p.1) ⊎ (has_dot a w.dot ≡ true)

-- how far the pass has come, and what it found
pub record Lones (a b left right : List VersionParts) (found : Option (ℕ × VersionParts)) : Type 0 where
  pub out : List VersionParts
  pub split : a ≡ out ++ left
  pub rise_left : Rise left
  pub rise_right : Rise right
  pub before : (u : VersionParts) → Contains out u → (w : VersionParts) → Contains right w → IsDotBefore u.dot w.dot
  pub from_right : (w : VersionParts) → Contains right w → Contains b w
  pub known : (w : VersionParts) → Contains b w → Contains right w ⊎ IsKnown a found w
  pub found_is : IfSome found (λ p. IsNew a b right p.0 p.1)

-- the dot comes before all of a list that rises, where it comes before the first
first_of_all : (d : DotNumbers) (l : List VersionParts) → Rise l → IsFirst d l → (u : VersionParts) → Contains l u → IsDotBefore d u.dot
first_of_all d [] rise first u h = absurd (not_in_nil u h)
first_of_all d (x ∷ xs) rise first u h =
    ⊎_elim
    (λ same. subst (λ y. IsDotBefore d y.dot) (sym same) first)
    (λ later. before_trans d x.dot u.dot first (after_all x.dot xs rise u later))
    (in_cases x u xs h)

known_by_dot : (a : List VersionParts) (found : Option (ℕ × VersionParts)) (w : VersionParts) → has_dot a w.dot ≡ true → IsKnown a found w
known_by_dot a None w e = e
known_by_dot a (Some p) w e = inr e

module _ (a b left right : List VersionParts) (found : Option (ℕ × VersionParts)) (s : Lones a b left right found) where
  -- the first that is left of a is passed over
  pub skip_mine : (m : VersionParts) (l : List VersionParts) → left ≡ m ∷ l → ((w : VersionParts) → Contains right w → IsDotBefore m.dot w.dot) → Lones a b l right found
  skip_mine m l left_is first = record {
    out = s.out ++ m ∷ [];
    split = s.split ∙ ap (λ x. s.out ++ x) left_is ∙ sym (append_assoc s.out (m ∷ []) l);
    rise_left = tail_rises m l (subst Rise left_is s.rise_left);
    rise_right = s.rise_right;
    before = λ u h w k.
        ⊎_elim
        (λ old. s.before u old w k)
        (λ last. ⊎_elim (λ same. subst (λ x. IsDotBefore x.dot w.dot) (sym same) (first w k)) (λ none. absurd (not_in_nil u none)) (in_cases m u [] last))
        (Contains-append_cases s.out (m ∷ []) u h);
    from_right = s.from_right;
    known = s.known;
    found_is = s.found_is;
  }

  module _ (t : VersionParts) (r : List VersionParts) (right_is : right ≡ t ∷ r) where
    back : (w : VersionParts) → Contains r w → Contains right w
    back w k = subst (λ x. Contains x w) (sym right_is) (in_tail t w r k)

    head : Contains right t
    head = subst (λ x. Contains x t) (sym right_is) (in_head t r)

    passed : (new : Option (ℕ × VersionParts)) → ((w : VersionParts) → w ≡ t → IsKnown a new w) → ((w : VersionParts) → IsKnown a found w → IsKnown a new w) → (w : VersionParts) → Contains b w → Contains r w ⊎ IsKnown a new w
    passed new here before w h =
        ⊎_elim
        (λ still. ⊎_elim (λ same. inr (here w same)) inl (in_cases t w r (subst (λ x. Contains x w) right_is still)))
        (λ k. inr (before w k))
        (s.known w h)

    -- the first that is left of b has its dot among those of a
    pub skip_theirs : has_dot a t.dot ≡ true → Lones a b left r found
    skip_theirs has = record {
      out = s.out;
      split = s.split;
      rise_left = s.rise_left;
      rise_right = tail_rises t r (subst Rise right_is s.rise_right);
      before = λ u h w k. s.before u h w (back w k);
      from_right = λ w k. s.from_right w (back w k);
      known = passed found (λ w same. known_by_dot a found w (subst (λ x. has_dot a x.dot ≡ true) (sym same) has)) (λ w k. k);
      found_is = earlier found s.found_is;
    }
      where
        earlier : (f : Option (ℕ × VersionParts)) → IfSome f (λ p. IsNew a b right p.0 p.1) → IfSome f (λ p. IsNew a b r p.0 p.1)
        earlier None e = tt
        earlier (Some p) n = record { in_b = n.in_b; not_in_a = n.not_in_a; place = n.place; first = λ w k. n.first w (back w k) }

    module _ (first : IsFirst t.dot left) where
      new_dot : has_dot a t.dot ≡ false
      new_dot =
          lacks_it a t.dot (λ u h same.
          ⊎_elim
          (λ in_out. before_not_self t.dot (subst (λ d. IsDotBefore d t.dot) same (s.before u in_out t head)))
          (λ in_left. before_not_self t.dot (subst (IsDotBefore t.dot) same (first_of_all t.dot left s.rise_left first u in_left)))
          (Contains-append_cases s.out left u (subst (λ x. Contains x u) s.split h)))

      -- the first that is left of b has not, and is the first such
      pub take_theirs : found ≡ None → Lones a b left r (Some (length a - length left, t))
      take_theirs none = record {
        out = s.out;
        split = s.split;
        rise_left = s.rise_left;
        rise_right = tail_rises t r (subst Rise right_is s.rise_right);
        before = λ u h w k. s.before u h w (back w k);
        from_right = λ w k. s.from_right w (back w k);
        known = passed (Some (length a - length left, t)) (λ w same. inl same) (λ w k. inr (subst (λ f. IsKnown a f w) none k));
        found_is = record {
          in_b = s.from_right t head;
          not_in_a = new_dot;
          place = record {
            front = s.out;
            back = left;
            both = s.split;
            length_is = omega (arith, ap length s.split, length-append s.out left);
            before = λ u h. s.before u h t head;
            after = first;
          };
          first = after_all t.dot r (subst Rise right_is s.rise_right);
        };
      }

      -- it is the second such: no version is the only one
      pub two_are_new : (p : ℕ × VersionParts) → found ≡ Some p → (v : VersionParts) → IsLone a b v → ⊥
      two_are_new p is v l =
          let n = subst (λ f. IfSome f (λ q. IsNew a b right q.0 q.1)) is s.found_is in
          before_not_self t.dot (subst (λ x. IsDotBefore x.dot t.dot) (it p.1 n.in_b n.not_in_a ∙ sym (it t (s.from_right t head) new_dot)) (n.first t head))
        where
          it : (w : VersionParts) → Contains b w → has_dot a w.dot ≡ false → w ≡ v
          it w h new = ⊎_elim (λ same. same) (λ has. absurd (true≢false (sym has ∙ new))) (l.others w h)

-- the first of a comes before that of b
pub skip_before : (a b left right : List VersionParts) (found : Option (ℕ × VersionParts)) (m t : VersionParts) (l r : List VersionParts) → left ≡ m ∷ l → right ≡ t ∷ r → IsDotBefore m.dot t.dot → Lones a b left right found → Lones a b l right found
skip_before a b left right found m t l r left_is right_is earlier s =
    skip_mine a b left right found s m l left_is (first_of_all m.dot right s.rise_right (subst (IsFirst m.dot) (sym right_is) earlier))

-- the first of both have one dot
pub skip_both : (a b left right : List VersionParts) (found : Option (ℕ × VersionParts)) (m t : VersionParts) (l r : List VersionParts) → left ≡ m ∷ l → right ≡ t ∷ r → m.dot ≡ t.dot → Lones a b left right found → Lones a b l r found
skip_both a b left right found m t l r left_is right_is same s =
    skip_mine a b left r found next m l left_is
    (λ w h. subst (λ d. IsDotBefore d w.dot) (sym same) (after_all t.dot r (subst Rise right_is s.rise_right) w h))
  where
    in_a : Contains a m
    in_a =
        subst (λ x. Contains x m) (sym s.split)
        (Contains-append_right s.out left m (subst (λ x. Contains x m) (sym left_is) (in_head m l)))

    next : Lones a b left r found
    next = skip_theirs a b left right found s t r right_is (has_it a t.dot m in_a same)

-- all of a come before the only one of b
module _ (a : List VersionParts) (t : VersionParts) (earlier : (u : VersionParts) → Contains a u → IsDotBefore u.dot t.dot) where
  pub last_is_lone : (b : List VersionParts) → b ≡ t ∷ [] → IsLone a b t
  last_is_lone b is = record {
    in_b = subst (λ l. Contains l t) (sym is) (in_head t []);
    not_in_a = lacks_it a t.dot (λ u h same. before_not_self t.dot (subst (λ d. IsDotBefore d t.dot) same (earlier u h)));
    others = λ w h. ⊎_elim inl (λ none. absurd (not_in_nil w none)) (in_cases t w [] (subst (λ l. Contains l w) is h));
  }

  pub last_has_place : (at : ℕ) → at ≡ length a → IsPlaceOf a t.dot at
  last_has_place at is = record {
    front = a;
    back = [];
    both = sym (append-nil a);
    length_is = sym is;
    before = earlier;
    after = tt;
  }

-- where nothing is left of b
module _ (a b left : List VersionParts) where
  pub found_is_lone : (found : Option (ℕ × VersionParts)) → Lones a b left [] found → IfSome found (λ p. IsLone a b p.1)
  found_is_lone None s = tt
  found_is_lone (Some p) s = record {
    in_b = s.found_is.in_b;
    not_in_a = s.found_is.not_in_a;
    others = λ w h. ⊎_elim (λ none. absurd (not_in_nil w none)) (λ k. k) (s.known w h);
  }

  pub found_has_place : (found : Option (ℕ × VersionParts)) → Lones a b left [] found → IfSome found (λ p. IsPlaceOf a p.1.dot p.0)
  found_has_place None s = tt
  found_has_place (Some p) s = s.found_is.place

  pub none_is_lone : (found : Option (ℕ × VersionParts)) → Lones a b left [] found → IfNone found ((v : VersionParts) → IsLone a b v → ⊥)
  none_is_lone (Some p) s = tt
  none_is_lone None s =
      λ v l. ⊎_elim (λ none. not_in_nil v none) (λ has. true≢false (sym has ∙ l.not_in_a)) (s.known v l.in_b)

-- what is so of a mapped option
module _ {X Y : Type 0} (f : X → Y) where
  pub some_mapped : (P : Y → Type 0) (x : Option X) → IfSome (option_map f x) P → IfSome x (λ y. P (f y))
  some_mapped P None h = tt
  some_mapped P (Some x) h = h

  pub none_mapped : (P : Type 0) (x : Option X) → IfNone (option_map f x) P → IfNone x P
  none_mapped P None h = h
  none_mapped P (Some x) h = tt

  pub some_gives : (x : Option X) → is_some x ≡ true → (y : X) × (option_map f x ≡ Some (f y))
  some_gives None e = absurd (true≢false (sym e))
  some_gives (Some x) e = (x, refl)

  pub none_gives : (x : Option X) → is_some x ≡ false → option_map f x ≡ None
  none_gives None e = refl
  none_gives (Some x) e = absurd (true≢false e)

-- one of two tests is passed by some, where the one is or the other
pub any_of_either : {X : Type 0} (p q : X → Bool) (xs : List X) → list_any (λ x. p x || q x) xs ≡ (list_any p xs || list_any q xs)
any_of_either p q [] = refl
any_of_either p q (x ∷ xs) = go (p x) (q x) (list_any p xs) (list_any q xs) (list_any (λ y. p y || q y) xs) (any_of_either p q xs)
  where
    go : (a b c d e : Bool) → e ≡ (c || d) → ((a || b) || e) ≡ ((a || c) || (b || d))
    go true b c d e later = refl
    go false true true d e later = refl
    go false true false d e later = refl
    go false false c d e later = later
