-- What merging keeps, and in which orders it may be done.
use Rattle.std.proofs.Common.{◌≡◌, ℕ, Bool, true, false, cond, ◌||◌, not, List, [], ◌∷◌, ◌++◌, map, Option, ◌⊎◌, refl, sym, ap, ◌∙◌, subst, inl, inr, ⊎_elim, append_assoc}
use Rattle.std.specs.List.{filter, Contains, All}
use Rattle.std.specs.FinSet as set
use Rattle.std.proofs.lemmas.Bool.{cases_Bool, or_cases, or_right, true≢false, not-true, not_from_false}
use Rattle.std.proofs.lemmas.List.Elements.{All-cons, All-contains, All-nil, Contains-append_left, Contains-append_right, Contains-append_cases}
use Rattle.std.proofs.lemmas.List.Folds.{list_any-append}
use Rattle.std.proofs.lemmas.List.{append-nil}
use Rattle.dy_dots.specs.Dots.{DotNumbers, same_dot}
use Rattle.dy_siblings.specs.Versions.{VersionParts, IsVersion, in_history, with_value}
use Rattle.dy_siblings.specs.Siblings.{AreClosed, AreOneByDot, IsSameRow, context_of, covers, is_past, merge, newest}
use Rattle.dy_siblings.proofs.Members.{not_in_nil, in_head, in_tail, in_cases, any_gives, any_from, none_from, filter_in, filter_from}
use Rattle.dy_dots.proofs.SameDots.{same_dot_is}
use Rattle.dy_dots.proofs.Sets.{same_dots, in_union}
use Rattle.dy_siblings.proofs.Histories.{in_context}

newest_from : (vs : List VersionParts) (v : VersionParts) → Contains (newest vs) v → Contains vs v × (is_past vs v.dot ≡ false)
newest_from vs v h = let f = filter_from (λ x. not (is_past vs x.dot)) vs v h in (f.0, not-true (is_past vs v.dot) f.1)

newest_in : (vs : List VersionParts) (v : VersionParts) → Contains vs v → is_past vs v.dot ≡ false → Contains (newest vs) v
newest_in vs v h e = filter_in (λ x. not (is_past vs x.dot)) vs v h (not_from_false (is_past vs v.dot) e)

-- what is in the past of a part is in the past of the whole
past_of_part : (part whole : List VersionParts) → ((v : VersionParts) → Contains part v → Contains whole v) → (d : DotNumbers) → is_past whole d ≡ false → is_past part d ≡ false
past_of_part part whole within d e =
    none_from (λ v. set.contains v.past d) part (λ v h below.
    true≢false (sym (any_from (λ v. set.contains v.past d) whole v (within v h) below) ∙ e))

-- the newest of the same versions are the same
newest_within : (xs ys : List VersionParts) → IsSameRow xs ys → (v : VersionParts) → Contains (newest xs) v → Contains (newest ys) v
newest_within xs ys same v h =
    let f = newest_from xs v h in newest_in ys v ((same v).0 f.0) (past_of_part ys xs (λ u. (same u).1) v.dot f.1)

pub same_newest : (xs ys : List VersionParts) → IsSameRow xs ys → IsSameRow (newest xs) (newest ys)
same_newest xs ys same v = (newest_within xs ys same v, newest_within ys xs (λ u. ((same u).1, (same u).0)) v)

swapped : (s t : List VersionParts) (v : VersionParts) → Contains (s ++ t) v → Contains (t ++ s) v
swapped s t v h = ⊎_elim (λ l. Contains-append_right t s v l) (λ r. Contains-append_left t s v r) (Contains-append_cases s t v h)

pub commutes : (s t : List VersionParts) → IsSameRow (merge s t) (merge t s)
commutes s t = same_newest (s ++ t) (t ++ s) (λ v. (swapped s t v, swapped t s v))

-- what is merged with no version stays, where none of its versions is past
pub unmerged : (s : List VersionParts) → All (λ v. is_past s v.dot ≡ false) s → IsSameRow s (merge s [])
unmerged s own =
    let itself : s ++ [] ≡ s = append-nil s in
    λ v. (
      (λ h. subst (λ l. Contains (newest l) v) (sym itself) (newest_in s v h (All-contains (λ x. is_past s x.dot ≡ false) s v own h))),
      (λ h. (newest_from s v (subst (λ l. Contains (newest l) v) itself h)).0),
    )

pub idempotent : (s : List VersionParts) → All (λ v. is_past s v.dot ≡ false) s → IsSameRow (merge s s) s
idempotent s none v = (
  (λ h. once v (newest_from (s ++ s) v h).0),
  (λ h. newest_in (s ++ s) v (Contains-append_left s s v h)
      (past_of_part (s ++ s) s once v.dot (All-contains (λ u. is_past s u.dot ≡ false) s v none h))),
)
  where
    once : (u : VersionParts) → Contains (s ++ s) u → Contains s u
    once u h = ⊎_elim (λ l. l) (λ r. r) (Contains-append_cases s s u h)

-- the merge of a version with itself, which one dot tells, is that version
pub one_merges : (u v : VersionParts) → AreOneByDot (u ∷ v ∷ []) → IsVersion u → u.dot ≡ v.dot → IsSameRow (u ∷ []) (merge (u ∷ []) (v ∷ []))
one_merges u v one lacks same =
    subst (λ x. IsSameRow (u ∷ []) (merge (u ∷ []) (x ∷ [])))
    (one u v (in_head u (v ∷ [])) (in_tail u v (v ∷ []) (in_head v [])) same)
    (λ x. let is = idempotent (u ∷ []) (All-cons P u [] (ap (λ b. b || false) lacks) (All-nil P)) x in (is.1, is.0))
  where
    P : VersionParts → Type 0
    P v = is_past (u ∷ []) v.dot ≡ false

-- a version of the list that is u or follows it, and that none of xs follows
pub record Top (vs xs : List VersionParts) (u : VersionParts) : Type 0 where
  pub version : VersionParts
  pub in_list : Contains vs version
  pub above : (version ≡ u) ⊎ (set.contains version.past u.dot ≡ true)
  pub last : (x : VersionParts) → Contains xs x → set.contains x.past version.dot ≡ true → ⊥

module _ (vs : List VersionParts) (lacks : (v : VersionParts) → Contains vs v → IsVersion v) (closed : AreClosed vs) where
  not_back : (t x : VersionParts) → Contains vs t → Contains vs x → (t ≡ x) ⊎ (set.contains t.past x.dot ≡ true) → set.contains x.past t.dot ≡ true → ⊥
  not_back t x in_t in_x (inl same) below = true≢false (sym below ∙ ap (λ y. set.contains x.past y.dot) same ∙ lacks x in_x)
  not_back t x in_t in_x (inr above) below = true≢false (sym (closed t x in_t in_x below x.dot above) ∙ lacks x in_x)

  not_past : (t u x : VersionParts) → Contains vs t → Contains vs x → (t ≡ u) ⊎ (set.contains t.past u.dot ≡ true) → set.contains x.past u.dot ≡ false → set.contains x.past t.dot ≡ true → ⊥
  not_past t u x in_t in_x (inl same) e below = true≢false (sym below ∙ ap (λ y. set.contains x.past y.dot) same ∙ e)
  not_past t u x in_t in_x (inr above) e below = true≢false (sym (closed t x in_t in_x below u.dot above) ∙ e)

  higher : (t x u : VersionParts) → Contains vs t → Contains vs x → (t ≡ x) ⊎ (set.contains t.past x.dot ≡ true) → set.contains x.past u.dot ≡ true → set.contains t.past u.dot ≡ true
  higher t x u in_t in_x (inl same) e = ap (λ y. set.contains y.past u.dot) same ∙ e
  higher t x u in_t in_x (inr above) e = closed x t in_x in_t above u.dot e

  -- from u on, take each version of the list that follows the one before
  top_of : (xs : List VersionParts) → ((x : VersionParts) → Contains xs x → Contains vs x) → (u : VersionParts) → Contains vs u → Top vs xs u
  top_of [] within u h = record { version = u; in_list = h; above = inl refl; last = λ x none below. not_in_nil x none }
  top_of (x ∷ xs) within u h =
      ⊎_elim
      (λ e. from_head e (top_of xs (λ y l. within y (in_tail x y xs l)) x (within x (in_head x xs))))
      (λ e. from_rest e (top_of xs (λ y l. within y (in_tail x y xs l)) u h))
      (cases_Bool (set.contains x.past u.dot))
    where
      in_x : Contains vs x
      in_x = within x (in_head x xs)

      from_head : set.contains x.past u.dot ≡ true → Top vs xs x → Top vs (x ∷ xs) u
      from_head e t = record {
        version = t.version;
        in_list = t.in_list;
        above = inr (higher t.version x u t.in_list in_x t.above e);
        last = λ y l below.
            ⊎_elim
            (λ same. not_back t.version x t.in_list in_x t.above (ap (λ z. set.contains z.past t.version.dot) (sym same) ∙ below))
            (λ later. t.last y later below)
            (in_cases x y xs l);
      }

      from_rest : set.contains x.past u.dot ≡ false → Top vs xs u → Top vs (x ∷ xs) u
      from_rest e t = record {
        version = t.version;
        in_list = t.in_list;
        above = t.above;
        last = λ y l below.
            ⊎_elim
            (λ same. not_past t.version u x t.in_list in_x t.above e (ap (λ z. set.contains z.past t.version.dot) (sym same) ∙ below))
            (λ later. t.last y later below)
            (in_cases x y xs l);
      }

  top : (u : VersionParts) → Contains vs u → Top vs vs u
  top u h = top_of vs (λ x l. l) u h

  top_newest : (u : VersionParts) (t : Top vs vs u) → Contains (newest vs) t.version
  top_newest u t = newest_in vs t.version t.in_list (none_from (λ x. set.contains x.past t.version.dot) vs t.last)

  -- what one of the versions covers, one of the newest covers
  pub newest_covers : (d : DotNumbers) → covers vs d ≡ true → covers (newest vs) d ≡ true
  newest_covers d e =
      let u = any_gives (λ v. in_history v d) vs e in
      let t = top u.item u.in_list in
      any_from (λ v. in_history v d) (newest vs) t.version (top_newest u.item t) (reach u.item t.version u.in_list t.in_list t.above u.passes)
    where
      reach : (u t : VersionParts) → Contains vs u → Contains vs t → (t ≡ u) ⊎ (set.contains t.past u.dot ≡ true) → in_history u d ≡ true → in_history t d ≡ true
      reach u t in_u in_t (inl same) here = ap (λ v. in_history v d) same ∙ here
      reach u t in_u in_t (inr above) here =
          or_right (same_dot t.dot d) (set.contains t.past d)
          (⊎_elim
          (λ own. ap (set.contains t.past) (sym (same_dot_is u.dot d own)) ∙ above)
          (λ below. closed u t in_u in_t above d below)
          (or_cases (same_dot u.dot d) (set.contains u.past d) here))

  -- what lies in the past of one of the versions lies in the past of one of the newest
  past_of_newest : (d : DotNumbers) → is_past vs d ≡ true → is_past (newest vs) d ≡ true
  past_of_newest d e =
      let u = any_gives (λ v. set.contains v.past d) vs e in
      let t = top u.item u.in_list in
      any_from (λ v. set.contains v.past d) (newest vs) t.version (top_newest u.item t) (reach u.item t.version u.in_list t.in_list t.above u.passes)
    where
      reach : (u t : VersionParts) → Contains vs u → Contains vs t → (t ≡ u) ⊎ (set.contains t.past u.dot ≡ true) → set.contains u.past d ≡ true → set.contains t.past d ≡ true
      reach u t in_u in_t (inl same) below = ap (λ v. set.contains v.past d) same ∙ below
      reach u t in_u in_t (inr above) below = closed u t in_u in_t above d below

-- a part of closed versions is closed
closed_part : (part whole : List VersionParts) → ((v : VersionParts) → Contains part v → Contains whole v) → AreClosed whole → AreClosed part
closed_part part whole within closed u v in_u in_v e d below = closed u v (within u in_u) (within v in_v) e d below

module _ (s t : List VersionParts) (lacks : (v : VersionParts) → Contains (s ++ t) v → IsVersion v) (closed : AreClosed (s ++ t)) where
  wider : (v : VersionParts) → Contains (newest s ++ t) v → Contains (s ++ t) v
  wider v h =
      ⊎_elim
      (λ l. Contains-append_left s t v (newest_from s v l).0)
      (λ r. Contains-append_right s t v r)
      (Contains-append_cases (newest s) t v h)

  past_of_first : (d : DotNumbers) → is_past s d ≡ true → is_past (newest s) d ≡ true
  past_of_first =
      past_of_newest s (λ v h. lacks v (Contains-append_left s t v h)) (closed_part s (s ++ t) (Contains-append_left s t) closed)

  still_past : (d : DotNumbers) → is_past (newest s ++ t) d ≡ false → is_past (s ++ t) d ≡ false
  still_past d e =
      none_from (λ u. set.contains u.past d) (s ++ t) (λ u h below.
      ⊎_elim
      (λ l.
      let x = any_gives (λ v. set.contains v.past d) (newest s) (past_of_first d (any_from (λ v. set.contains v.past d) s u l below)) in
      true≢false (sym (any_from (λ v. set.contains v.past d) (newest s ++ t) x.item (Contains-append_left (newest s) t x.item x.in_list) x.passes) ∙ e))
      (λ r. true≢false (sym (any_from (λ v. set.contains v.past d) (newest s ++ t) u (Contains-append_right (newest s) t u r) below) ∙ e))
      (Contains-append_cases s t u h))

  pub in_turn : IsSameRow (merge (newest s) t) (newest (s ++ t))
  in_turn v = (
    (λ h. let f = newest_from (newest s ++ t) v h in newest_in (s ++ t) v (wider v f.0) (still_past v.dot f.1)),
    (λ h.
        let f = newest_from (s ++ t) v h in
        newest_in (newest s ++ t) v
        (⊎_elim
        (λ l. Contains-append_left (newest s) t v (newest_in s v l (past_of_part s (s ++ t) (Contains-append_left s t) v.dot f.1)))
        (λ r. Contains-append_right (newest s) t v r)
        (Contains-append_cases s t v f.0))
        (past_of_part (newest s ++ t) (s ++ t) wider v.dot f.1)),
  )

same_trans : (xs ys zs : List VersionParts) → IsSameRow xs ys → IsSameRow ys zs → IsSameRow xs zs
same_trans xs ys zs p q v = ((λ h. (q v).0 ((p v).0 h)), (λ h. (p v).1 ((q v).1 h)))

same_back : (xs ys : List VersionParts) → IsSameRow xs ys → IsSameRow ys xs
same_back xs ys p v = ((p v).1, (p v).0)

pub in_turn_by : (s t : List VersionParts) → All IsVersion (s ++ t) → AreClosed (s ++ t) → IsSameRow (merge (newest s) t) (newest (s ++ t))
in_turn_by s t lacks closed = in_turn s t (λ v h. All-contains IsVersion (s ++ t) v lacks h) closed

pub associates : (r s t : List VersionParts) → All IsVersion (r ++ (s ++ t)) → AreClosed (r ++ (s ++ t)) → IsSameRow (merge (merge r s) t) (merge r (merge s t))
associates r s t lacks closed =
    same_trans (merge (merge r s) t) (newest ((r ++ s) ++ t)) (merge r (merge s t))
    (in_turn_by (r ++ s) t (subst (All IsVersion) (sym (append_assoc r s t)) lacks) (subst AreClosed (sym (append_assoc r s t)) closed))
    (same_trans (newest ((r ++ s) ++ t)) (newest ((s ++ t) ++ r)) (merge r (merge s t))
    (same_newest ((r ++ s) ++ t) ((s ++ t) ++ r) (λ v. (
      (λ h. swapped r (s ++ t) v (subst (λ l. Contains l v) (append_assoc r s t) h)),
      (λ h. subst (λ l. Contains l v) (sym (append_assoc r s t)) (swapped (s ++ t) r v h)),
    )))
    (same_trans (newest ((s ++ t) ++ r)) (merge (merge s t) r) (merge r (merge s t))
    (same_back (merge (merge s t) r) (newest ((s ++ t) ++ r))
    (in_turn (s ++ t) r
    (λ v h. All-contains IsVersion (r ++ (s ++ t)) v lacks (swapped (s ++ t) r v h))
    (closed_part ((s ++ t) ++ r) (r ++ (s ++ t)) (swapped (s ++ t) r) closed)))
    (commutes (merge s t) r)))

both_ways : (a b : Bool) → (a ≡ true → b ≡ true) → (b ≡ true → a ≡ true) → a ≡ b
both_ways true b f g = sym (f refl)
both_ways false true f g = g refl
both_ways false false f g = refl

pub covers_merge : (s t : List VersionParts) → All IsVersion (s ++ t) → AreClosed (s ++ t) → (d : DotNumbers) → covers (merge s t) d ≡ (covers s d || covers t d)
covers_merge s t lacks closed d =
    both_ways (covers (merge s t) d) (covers (s ++ t) d)
    (λ e.
    let x = any_gives (λ v. in_history v d) (merge s t) e in
    any_from (λ v. in_history v d) (s ++ t) x.item (newest_from (s ++ t) x.item x.in_list).0 x.passes)
    (newest_covers (s ++ t) (λ v h. All-contains IsVersion (s ++ t) v lacks h) closed d)
    ∙ list_any-append (λ v. in_history v d) s t

pub context_merge : (s t : List VersionParts) → All IsVersion (s ++ t) → AreClosed (s ++ t) → context_of (merge s t) ≡ set.union (context_of s) (context_of t)
context_merge s t lacks closed =
    same_dots (context_of (merge s t)) (set.union (context_of s) (context_of t)) (λ d.
    in_context (merge s t) d ∙ covers_merge s t lacks closed d
    ∙ (λ i. sym (in_context s d) i || sym (in_context t d) i)
    ∙ sym (in_union (context_of s) (context_of t) d))

-- the values of versions decide nothing
module _ (value_of : VersionParts → Option (List ℕ)) where
  past_of_map : (vs : List VersionParts) (d : DotNumbers) → is_past (map (with_value value_of) vs) d ≡ is_past vs d
  past_of_map [] d = refl
  past_of_map (v ∷ vs) d = ap (λ b. set.contains v.past d || b) (past_of_map vs d)

  filter_of_map : (p : DotNumbers → Bool) (vs : List VersionParts) → filter (λ v. p v.dot) (map (with_value value_of) vs) ≡ map (with_value value_of) (filter (λ v. p v.dot) vs)
  filter_of_map p [] = refl
  filter_of_map p (v ∷ vs) = go (p v.dot) (filter_of_map p vs)
    where
      go : (b : Bool) → filter (λ x. p x.dot) (map (with_value value_of) vs) ≡ map (with_value value_of) (filter (λ x. p x.dot) vs)
          → cond b (with_value value_of v ∷ filter (λ x. p x.dot) (map (with_value value_of) vs)) (filter (λ x. p x.dot) (map (with_value value_of) vs))
          ≡ map (with_value value_of) (cond b (v ∷ filter (λ x. p x.dot) vs) (filter (λ x. p x.dot) vs))
      go true later = ap (λ l. with_value value_of v ∷ l) later
      go false later = later

  map_of_both : (s t : List VersionParts) → map (with_value value_of) (s ++ t) ≡ map (with_value value_of) s ++ map (with_value value_of) t
  map_of_both [] t = refl
  map_of_both (v ∷ s) t = ap (λ l. with_value value_of v ∷ l) (map_of_both s t)

  pub values_ignored : (s t : List VersionParts) → map (with_value value_of) (merge s t) ≡ merge (map (with_value value_of) s) (map (with_value value_of) t)
  values_ignored s t =
      sym (filter_of_map (λ d. not (is_past (s ++ t) d)) (s ++ t))
      ∙ ap (λ (past : DotNumbers → Bool). filter (λ v. not (past v.dot)) (map (with_value value_of) (s ++ t))) (λ i d. sym (past_of_map (s ++ t) d) i)
      ∙ ap newest (map_of_both s t)
