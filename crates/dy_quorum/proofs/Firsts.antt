-- The first of each home, one element after another: whether a home is there decides whether the
-- next element is taken, and with it what the list of homes and of what is taken become.
use Rattle.std.proofs.Common.{◌≡◌, ◌++◌, ◌∷◌, [], ◌<◌, ◌≤◌, ◌+◌, List, ℕ, Bool, true, false}
use Rattle.std.proofs.Common.{zero, suc, length, map, get_or, nat_eq, refl, sym, ◌∙◌, ap, subst}
use Rattle.std.proofs.Common.{arith, length-append, append_assoc, inl, inr}
use Rattle.std.proofs.lemmas.Bool.{cases_Bool, cases_eq, eqb-true}
use Rattle.std.proofs.lemmas.Bool.Decides.{Decides-eqb}
use Rattle.std.proofs.lemmas.List.{append-nil, map-append, get_or-map, length-map}
use Rattle.std.proofs.lemmas.List.Sums.{fold_push}
use Rattle.std.proofs.lemmas.List.Elements.{All-contains, All-push, Contains-append_left}
use Rattle.std.proofs.lemmas.List.Elements.{Contains-push}
use Rattle.std.proofs.lemmas.List.Quantifiers.{all_pairs_push}
use Rattle.std.proofs.lemmas.Map.Keys.{any_passes_from_place}
use Rattle.std.proofs.lemmas.Map.Steps.{length-le_from_distinct_below}
use Rattle.std.proofs.lemmas.Map.Made.{AllPairs-from_IsDistinct, IsDistinct-from_AllPairs}
use Rattle.std.proofs.lemmas.Option.{slice_get-get_or}
use Rattle.std.specs.Cmp.{nat_eq_equiv}
use Rattle.std.specs.List.{All, AllPairs, Contains, fold, list_any, IsDistinct}
use Rattle.dy_siblings.proofs.Members.{Mapped, map_from}
use Rattle.dy_quorum.specs.Firsts.{with_first, firsts_by, AreFirstsBy}

abbrev pub home_in : List ℕ → ℕ → Bool
home_in hs h = list_any (λ y. nat_eq y h) hs

home_in-yes : (hs : List ℕ) (h : ℕ) → Contains hs h → home_in hs h ≡ true
home_in-yes hs h c =
    any_passes_from_place (λ y. nat_eq y h) hs c.0 (get_or hs c.0 h) (slice_get-get_or hs c.0 h c.1)
    (ap (λ y. nat_eq y h) c.2 ∙ (let l = nat_eq_equiv in l.refl h))

home_in-no : (hs : List ℕ) (h : ℕ) → home_in hs h ≡ false → Contains hs h → ⊥
home_in-no hs h lacks c = let has = home_in-yes hs h c in cc

in_rest : (x h : ℕ) (hs : List ℕ) → (x ≡ h → ⊥) → home_in (x ∷ hs) h ≡ true → home_in hs h ≡ true
in_rest x h hs other e = elim (cases_Bool (nat_eq x h)) [
  | inl has ↦ absurd (other (eqb-true x h has))
  | inr lacks ↦ rw lacks at e
]

home_in-found : (hs : List ℕ) (h : ℕ) → home_in hs h ≡ true → Contains hs h
home_in-found [] h e = absurd (cc)
home_in-found (x ∷ hs) h e = elim (cases_eq x h) [
  | inl same ↦ (zero, omega (arith), same)
  | inr other ↦ (let r : Contains hs h = home_in-found hs h (in_rest x h hs other e) in
      (suc r.0, (let l = r.1 in omega arith), r.2))
]

module _ {A : Type 0} where
  -- elements that differ in pairs by what a function gives have it distinct, and back
  pub distinct_by : (f : A → ℕ) (c : List A) → AllPairs (λ x y. f x ≡ f y → ⊥) c →
      IsDistinct nat_eq (map f c)
  distinct_by f [] h = IsDistinct-from_AllPairs Decides-eqb [] (λ i j d l k. absurd (omega arith))
  distinct_by f (x ∷ c) h = IsDistinct-from_AllPairs Decides-eqb (map f (x ∷ c)) (λ i j d l k same.
      let n : length (map f (x ∷ c)) ≡ length (x ∷ c) = length-map (x ∷ c) f in
      h i j x l (omega (arith, n))
      (sym (get_or-map f (x ∷ c) i x d (omega (arith, n))) ∙ same
      ∙ get_or-map f (x ∷ c) j x d (omega (arith, n))))

  pub differ_by : (f : A → ℕ) (c : List A) → IsDistinct nat_eq (map f c) →
      AllPairs (λ x y. f x ≡ f y → ⊥) c
  differ_by f c h i j d l k same =
      let n : length (map f c) ≡ length c = length-map c f in
      AllPairs-from_IsDistinct Decides-eqb (map f c) h i j (f d) l (omega (arith, n))
      (get_or-map f c i d (f d) (omega (arith, n)) ∙ same
      ∙ sym (get_or-map f c j d (f d) (omega (arith, n))))

  contains_home : (home : A → ℕ) (fs : List A) (x : A) → Contains fs x →
      Contains (map home fs) (home x)
  contains_home home [] x c = absurd (let l = c.1 in omega arith)
  contains_home home (f ∷ fs) x (zero, l, e) = (zero, omega arith, ap home e)
  contains_home home (f ∷ fs) x (suc k, l, e) =
      let r : Contains (map home fs) (home x) = contains_home home fs x (k, omega arith, e) in
      (suc r.0, (let m = r.1 in omega arith), r.2)

  at_place : (fs : List A) (k : ℕ) (d : A) → k < length fs → Contains fs (get_or fs k d)
  at_place [] k d l = absurd (omega arith)
  at_place (f ∷ fs) zero d l = (zero, l, refl)
  at_place (f ∷ fs) (suc k) d l =
      let r : Contains fs (get_or fs k d) = at_place fs k d (omega arith) in
      (suc r.0, (let m = r.1 in omega arith), r.2)

  all_grow : (xs : List A) (x : A) (fs : List A) → All (λ y. Contains xs y) fs →
      All (λ y. Contains (xs ++ x ∷ []) y) fs
  all_grow xs x fs a k d l = Contains-append_left xs (x ∷ []) _ (a k d l)

  pub firsts_push : (home : A → ℕ) (xs : List A) (x : A) →
      firsts_by home (xs ++ x ∷ []) ≡ with_first home (firsts_by home xs) x
  firsts_push home xs x = fold_push (with_first home) [] xs x

  -- what is taken, where the home of the next is there, and where it isn't
  pub firsts_same : (home : A → ℕ) (xs : List A) (x : A) →
      home_in (map home (firsts_by home xs)) (home x) ≡ true →
      firsts_by home (xs ++ x ∷ []) ≡ firsts_by home xs
  firsts_same home xs x has = rw (firsts_push home xs x, has) refl

  pub firsts_more : (home : A → ℕ) (xs : List A) (x : A) →
      home_in (map home (firsts_by home xs)) (home x) ≡ false →
      firsts_by home (xs ++ x ∷ []) ≡ firsts_by home xs ++ x ∷ []
  firsts_more home xs x lacks = rw (firsts_push home xs x, lacks) refl

  -- none has the home that is not there
  pub apart_at : (home : A → ℕ) (fs : List A) (x : A) → home_in (map home fs) (home x) ≡ false →
      (k : ℕ) (d : A) → k < length fs → home (get_or fs k d) ≡ home x → ⊥
  apart_at home fs x lacks k d l same = home_in-no (map home fs) (home x) lacks
      (let P : ℕ → Type 0 = λ h. Contains (map home fs) h in
      subst P same (contains_home home fs (get_or fs k d) (at_place fs k d l)))

  are_same : (home : A → ℕ) (xs fs : List A) (x : A) → AreFirstsBy home xs fs →
      home_in (map home fs) (home x) ≡ true → AreFirstsBy home (xs ++ x ∷ []) fs
  are_same home xs fs x i has = record {
    among = all_grow xs x fs i.among;
    cover = All-push (λ y. Contains (map home fs) (home y)) xs x i.cover
        (home_in-found (map home fs) (home x) has);
    homes = i.homes;
    few = (let l : length (xs ++ x ∷ []) ≡ length xs + 1 = length-append xs (x ∷ []) in
        let f = i.few in omega arith);
  }

  are_more : (home : A → ℕ) (xs fs : List A) (x : A) → AreFirstsBy home xs fs →
      home_in (map home fs) (home x) ≡ false → AreFirstsBy home (xs ++ x ∷ []) (fs ++ x ∷ [])
  are_more home xs fs x i lacks =
      let m : map home (fs ++ x ∷ []) ≡ map home fs ++ home x ∷ [] = map-append home fs (x ∷ []) in
      record {
        among = All-push (λ y. Contains (xs ++ x ∷ []) y) fs x (all_grow xs x fs i.among)
            (Contains-push xs x);
        cover = (let P : List ℕ → Type 0 = λ hs. All (λ y. Contains hs (home y)) (xs ++ x ∷ []) in
            subst P (sym m) (All-push (λ y. Contains (map home fs ++ home x ∷ []) (home y)) xs x
            (λ k d l. Contains-append_left (map home fs) (home x ∷ []) _ (i.cover k d l))
            (Contains-push (map home fs) (home x))));
        homes = all_pairs_push (λ y z. home y ≡ home z → ⊥) fs x i.homes
            (λ k d l same. apart_at home fs x lacks k d l same);
        few = (let l : length (xs ++ x ∷ []) ≡ length xs + 1 = length-append xs (x ∷ []) in
            let k : length (fs ++ x ∷ []) ≡ length fs + 1 = length-append fs (x ∷ []) in
            let f = i.few in omega arith);
      }

  pub are_none : (home : A → ℕ) → AreFirstsBy home [] []
  are_none home = record {
    among = λ k d l. absurd (omega arith);
    cover = λ k d l. absurd (omega arith);
    homes = λ i j d l k. absurd (omega arith);
    few = omega arith;
  }

  pub are_push : (home : A → ℕ) (xs : List A) (x : A) → AreFirstsBy home xs (firsts_by home xs) →
      AreFirstsBy home (xs ++ x ∷ []) (firsts_by home (xs ++ x ∷ []))
  are_push home xs x i =
      let P : List A → Type 0 = λ fs. AreFirstsBy home (xs ++ x ∷ []) fs in
      elim (cases_Bool (home_in (map home (firsts_by home xs)) (home x))) [
        | inl has ↦ subst P (sym (firsts_same home xs x has))
            (are_same home xs (firsts_by home xs) x i has)
        | inr lacks ↦ subst P (sym (firsts_more home xs x lacks))
            (are_more home xs (firsts_by home xs) x i lacks)
      ]

  below_by : (home : A → ℕ) (n : ℕ) (fs : List A) → All (λ x. home x < n) fs → (h : ℕ) →
      list_any (nat_eq h) (map home fs) ≡ true → h < n
  below_by home n [] below h e = absurd (cc)
  below_by home n (f ∷ fs) below h e = elim (cases_Bool (nat_eq h (home f))) [
    | inl has ↦ (let same : h ≡ home f = eqb-true h (home f) has in
        let first : home f < n = below zero f (omega arith) in omega arith)
    | inr lacks ↦ below_by home n fs (λ k d l. below (suc k) d (omega arith)) h (rw lacks at e)
  ]

  -- where each home is below n, there are no more than n distinct ones
  pub few_firsts : (home : A → ℕ) (n : ℕ) (xs fs : List A) → AreFirstsBy home xs fs →
      All (λ x. home x < n) xs → length fs ≤ n
  few_firsts home n xs fs are below =
      let firsts : All (λ x. home x < n) fs =
      λ k d l. All-contains (λ x. home x < n) xs _ below (are.among k d l) in
      let few : length (map home fs) ≤ n = length-le_from_distinct_below (map home fs) n
      (distinct_by home fs are.homes) (λ h e. below_by home n fs firsts h e) in
      let same : length (map home fs) ≡ length fs = length-map fs home in
      omega arith

  -- so a home that is not there yet finds fewer
  pub room_for : (home : A → ℕ) (n : ℕ) (xs : List A) (x : A) (hs : List ℕ) →
      hs ≡ map home (firsts_by home xs) → AreFirstsBy home xs (firsts_by home xs) →
      All (λ y. home y < n) (xs ++ x ∷ []) → home_in hs (home x) ≡ false → length hs < n
  room_for home n xs x hs is are below lacks =
      let fs = firsts_by home xs in
      let few = few_firsts home n (xs ++ x ∷ []) (firsts_by home (xs ++ x ∷ []))
      (are_push home xs x are) below in
      let more : length (firsts_by home (xs ++ x ∷ [])) ≡ length fs + 1 =
      ap length (firsts_more home xs x (subst (λ ys. home_in ys (home x) ≡ false) is lacks))
      ∙ length-append fs (x ∷ []) in
      let same : length hs ≡ length fs = ap length is ∙ length-map fs home in
      omega arith

  are_from : (home : A → ℕ) (before xs : List A) → AreFirstsBy home before (firsts_by home before) →
      AreFirstsBy home (before ++ xs) (firsts_by home (before ++ xs))
  are_from home before [] i =
      let P : List A → Type 0 = λ ys. AreFirstsBy home ys (firsts_by home ys) in
      subst P (sym (append-nil before)) i
  are_from home before (x ∷ xs) i =
      let P : List A → Type 0 = λ ys. AreFirstsBy home ys (firsts_by home ys) in
      subst P (append_assoc before (x ∷ []) xs)
      (are_from home (before ++ x ∷ []) xs (are_push home before x i))

  one_more : (home : A → ℕ) (before : List A) (x : A) →
      length (firsts_by home (before ++ x ∷ [])) ≤ length (firsts_by home before) + 1
  one_more home before x = elim (cases_Bool (home_in (map home (firsts_by home before)) (home x))) [
    | inl has ↦ (let same = ap length (firsts_same home before x has) in omega arith)
    | inr lacks ↦ (let more = ap length (firsts_more home before x lacks)
        ∙ length-append (firsts_by home before) (x ∷ []) in omega arith)
  ]

  few_from : (home : A → ℕ) (before xs : List A) →
      length (firsts_by home (before ++ xs)) ≤ length (firsts_by home before) + length xs
  few_from home before [] =
      let P : List A → Type 0 =
      λ ys. length (firsts_by home ys) ≤ length (firsts_by home before) + 0 in
      subst P (sym (append-nil before)) (omega arith)
  few_from home before (x ∷ xs) =
      let rest : length (firsts_by home ((before ++ x ∷ []) ++ xs))
      ≤ length (firsts_by home (before ++ x ∷ [])) + length xs =
      few_from home (before ++ x ∷ []) xs in
      let first = one_more home before x in
      let P : List A → Type 0 =
      λ ys. length (firsts_by home ys) ≤ length (firsts_by home before) + suc (length xs) in
      subst P (append_assoc before (x ∷ []) xs) (omega (arith, rest, first))

  -- where as many are taken as there are, all are
  all_taken_from : (home : A → ℕ) (before xs : List A) → firsts_by home before ≡ before →
      length (firsts_by home (before ++ xs)) ≡ length before + length xs →
      firsts_by home (before ++ xs) ≡ before ++ xs
  all_taken_from home before [] all count =
      let P : List A → Type 0 = λ ys. firsts_by home ys ≡ ys in
      subst P (sym (append-nil before)) all
  all_taken_from home before (x ∷ xs) all count =
      let same : (before ++ x ∷ []) ++ xs ≡ before ++ x ∷ xs = append_assoc before (x ∷ []) xs in
      let P : List A → Type 0 = λ ys. firsts_by home ys ≡ ys in
      let counted : length (firsts_by home ((before ++ x ∷ []) ++ xs))
      ≡ length before + suc (length xs) = ap (λ ys. length (firsts_by home ys)) same ∙ count in
      let longer : length (before ++ x ∷ []) ≡ length before + 1 = length-append before (x ∷ []) in
      elim (cases_Bool (home_in (map home (firsts_by home before)) (home x))) [
        | inl has ↦ absurd (
            let few = few_from home (before ++ x ∷ []) xs in
            let as_before = ap length (firsts_same home before x has) in
            let whole = ap length all in omega (arith, few, as_before, whole, counted))
        | inr lacks ↦ subst P same (all_taken_from home (before ++ x ∷ []) xs
            (firsts_more home before x lacks ∙ ap (λ fs. fs ++ x ∷ []) all)
            (counted ∙ (omega (arith, longer))))
      ]

  pub all_taken : (home : A → ℕ) (xs : List A) → length (firsts_by home xs) ≡ length xs →
      firsts_by home xs ≡ xs
  all_taken home xs count = all_taken_from home [] xs refl (count ∙ omega arith)

  -- whatever the list, what is taken is the first of each home
  pub are_firsts : (home : A → ℕ) (xs : List A) → AreFirstsBy home xs (firsts_by home xs)
  are_firsts home xs = are_from home [] xs (are_none home)

  -- what is taken stays taken, whatever comes
  kept_on : (home : A → ℕ) (xs ys : List A) (x : A) → Contains (firsts_by home xs) x →
      Contains (firsts_by home (xs ++ ys)) x
  kept_on home xs [] x c =
      let P : List A → Type 0 = λ zs. Contains (firsts_by home zs) x in
      subst P (sym (append-nil xs)) c
  kept_on home xs (y ∷ ys) x c =
      let P : List A → Type 0 = λ zs. Contains (firsts_by home zs) x in
      let Q : List A → Type 0 = λ fs. Contains fs x in
      let one : Contains (firsts_by home (xs ++ y ∷ [])) x =
      (elim (cases_Bool (home_in (map home (firsts_by home xs)) (home y))) [
        | inl has ↦ subst Q (sym (firsts_same home xs y has)) c
        | inr lacks ↦ subst Q (sym (firsts_more home xs y lacks))
            (Contains-append_left (firsts_by home xs) (y ∷ []) x c)
      ]) in
      subst P (append_assoc xs (y ∷ []) ys) (kept_on home (xs ++ y ∷ []) ys x one)

  taken_first : (home : A → ℕ) (xs : List A) (x : A) →
      ((y : A) → Contains xs y → home y ≡ home x → ⊥) → Contains (firsts_by home (xs ++ x ∷ [])) x
  taken_first home xs x none =
      let Q : List A → Type 0 = λ fs. Contains fs x in
      let are : AreFirstsBy home xs (firsts_by home xs) = are_firsts home xs in
      elim (cases_Bool (home_in (map home (firsts_by home xs)) (home x))) [
        | inl has ↦ (let there : Contains (map home (firsts_by home xs)) (home x) =
            home_in-found (map home (firsts_by home xs)) (home x) has in
            let m : Mapped home (firsts_by home xs) (home x) =
            map_from home (firsts_by home xs) (home x) there in
            absurd (none m.item (All-contains (λ y. Contains xs y) (firsts_by home xs) m.item
            are.among m.in_list) m.gives))
        | inr lacks ↦ subst Q (sym (firsts_more home xs x lacks))
            (Contains-push (firsts_by home xs) x)
      ]

  -- what none of its home stands before is taken
  pub first_is_taken : (home : A → ℕ) (before after : List A) (x : A) →
      ((y : A) → Contains before y → home y ≡ home x → ⊥) →
      Contains (firsts_by home (before ++ x ∷ after)) x
  first_is_taken home before after x none =
      let P : List A → Type 0 = λ zs. Contains (firsts_by home zs) x in
      subst P (append_assoc before (x ∷ []) after)
      (kept_on home (before ++ x ∷ []) after x (taken_first home before x none))

  -- what is kept beside what is taken: of each taken what a function gives
  pub kept_same : {B : Type 0} (home : A → ℕ) (g : A → B) (xs : List A) (x : A) (hs : List ℕ)
      (ps : List B) → hs ≡ map home (firsts_by home xs) → ps ≡ map g (firsts_by home xs) →
      home_in hs (home x) ≡ true → ps ≡ map g (firsts_by home (xs ++ x ∷ []))
  kept_same home g xs x hs ps e f has =
      f ∙ ap (λ fs. map g fs) (sym (firsts_same home xs x
      (ap (λ k. home_in k (home x)) (sym e) ∙ has)))

  pub kept_more : {B : Type 0} (home : A → ℕ) (g : A → B) (xs : List A) (x : A) (hs : List ℕ)
      (ps : List B) → hs ≡ map home (firsts_by home xs) → ps ≡ map g (firsts_by home xs) →
      home_in hs (home x) ≡ false → ps ++ g x ∷ [] ≡ map g (firsts_by home (xs ++ x ∷ []))
  kept_more home g xs x hs ps e f lacks =
      ap (λ ys. ys ++ g x ∷ []) f ∙ sym (map-append g (firsts_by home xs) (x ∷ []))
      ∙ ap (λ fs. map g fs) (sym (firsts_more home xs x
      (ap (λ k. home_in k (home x)) (sym e) ∙ lacks)))

  pub homes_same : (home : A → ℕ) (xs : List A) (x : A) (hs : List ℕ) →
      hs ≡ map home (firsts_by home xs) → home_in hs (home x) ≡ true →
      hs ≡ map home (firsts_by home (xs ++ x ∷ []))
  homes_same home xs x hs e has = kept_same home home xs x hs hs e e has

  pub homes_more : (home : A → ℕ) (xs : List A) (x : A) (hs : List ℕ) →
      hs ≡ map home (firsts_by home xs) → home_in hs (home x) ≡ false →
      hs ++ home x ∷ [] ≡ map home (firsts_by home (xs ++ x ∷ []))
  homes_more home xs x hs e lacks = kept_more home home xs x hs hs e e lacks

  pub taken_same : (home : A → ℕ) (xs cs : List A) (x : A) (hs : List ℕ) →
      hs ≡ map home (firsts_by home xs) → cs ≡ firsts_by home xs → home_in hs (home x) ≡ true →
      cs ≡ firsts_by home (xs ++ x ∷ [])
  taken_same home xs cs x hs e f has =
      f ∙ sym (firsts_same home xs x (ap (λ k. home_in k (home x)) (sym e) ∙ has))

  pub taken_more : (home : A → ℕ) (xs cs : List A) (x : A) (hs : List ℕ) →
      hs ≡ map home (firsts_by home xs) → cs ≡ firsts_by home xs → home_in hs (home x) ≡ false →
      cs ++ x ∷ [] ≡ firsts_by home (xs ++ x ∷ [])
  taken_more home xs cs x hs e f lacks =
      ap (λ ys. ys ++ x ∷ []) f
      ∙ sym (firsts_more home xs x (ap (λ k. home_in k (home x)) (sym e) ∙ lacks))

  -- one more, at most
  pub few_push : (home : A → ℕ) (xs : List A) (x : A) →
      length (firsts_by home (xs ++ x ∷ [])) ≤ length (firsts_by home xs) + 1
  few_push home xs x =
      let k : length (firsts_by home xs ++ x ∷ []) ≡ length (firsts_by home xs) + 1 =
      length-append (firsts_by home xs) (x ∷ []) in
      elim (cases_Bool (home_in (map home (firsts_by home xs)) (home x))) [
        | inl has ↦ rw (firsts_same home xs x has) (omega arith)
        | inr lacks ↦ rw (firsts_more home xs x lacks) (omega arith)
      ]

  pub few_more : (home : A → ℕ) (xs : List A) (x : A) →
      length (firsts_by home xs) ≤ length xs →
      length (firsts_by home (xs ++ x ∷ [])) ≤ length (xs ++ x ∷ [])
  few_more home xs x le =
      let few : length (firsts_by home (xs ++ x ∷ [])) ≤ length (firsts_by home xs) + 1 =
      few_push home xs x in
      let l : length (xs ++ x ∷ []) ≡ length xs + 1 = length-append xs (x ∷ []) in omega arith

  -- of so many elements as many are first at most, and where as many are, each is
  pub firsts_few : (home : A → ℕ) (fs xs : List A) →
      length (fold (with_first home) fs xs) ≤ length fs + length xs
  firsts_few home fs [] = omega arith
  firsts_few home fs (x ∷ xs) = elim (cases_Bool (home_in (map home fs) (home x))) [
    | inl has ↦ rw has (let l = firsts_few home fs xs in omega arith)
    | inr lacks ↦ rw lacks (let l = firsts_few home (fs ++ x ∷ []) xs in
        omega (arith, length-append fs (x ∷ [])))
  ]

  pub firsts_all : (home : A → ℕ) (fs xs : List A) →
      length fs + length xs ≤ length (fold (with_first home) fs xs) →
      fold (with_first home) fs xs ≡ fs ++ xs
  firsts_all home fs [] many = sym (append-nil fs)
  firsts_all home fs (x ∷ xs) many =
      by_test (home_in (map home fs) (home x)) refl (firsts_all home (fs ++ x ∷ []) xs) many
    where
      by_test : (b : Bool) → home_in (map home fs) (home x) ≡ b →
          (length (fs ++ x ∷ []) + length xs ≤ length (fold (with_first home) (fs ++ x ∷ []) xs) →
          fold (with_first home) (fs ++ x ∷ []) xs ≡ (fs ++ x ∷ []) ++ xs) →
          length fs + length (x ∷ xs) ≤ length (fold (with_first home) (with_first home fs x) xs) →
          fold (with_first home) (with_first home fs x) xs ≡ fs ++ x ∷ xs
      by_test true has rest many =
          let same : with_first home fs x ≡ fs = rw has refl in
          let few = firsts_few home fs xs in
          let long = subst (λ l. length fs + length (x ∷ xs) ≤ length (fold (with_first home) l xs)) same many in
          absurd (omega arith)
      by_test false lacks rest many =
          let more : with_first home fs x ≡ fs ++ x ∷ [] = rw lacks refl in
          let long = subst (λ l. length fs + length (x ∷ xs) ≤ length (fold (with_first home) l xs)) more many in
          ap (λ l. fold (with_first home) l xs) more
          ∙ (rest (omega (arith, long, length-append fs (x ∷ [])))
          ∙ append_assoc fs (x ∷ []) xs)
