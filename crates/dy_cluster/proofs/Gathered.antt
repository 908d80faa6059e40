-- Members of lists that are mapped in part, or joined.
use Rattle.std.proofs.Common.{◌≡◌, List, [], ◌∷◌, Option, None, Some, refl, sym, ap, ◌∙◌, subst, ⊎_elim}
use Rattle.std.specs.List.{Contains, cons_option, filter_map, flat_map}
use Rattle.std.proofs.lemmas.List.Elements.{Contains-append_cases, Contains-append_left, Contains-append_right}
use Rattle.dy_siblings.proofs.Members.{in_cases, in_head, in_tail, not_in_nil}

-- what an element came from
pub record From {X Y : Type 0} (Gives : X → Y → Type 0) (xs : List X) (y : Y) : Type 0 where
  pub item : X
  pub in_list : Contains xs item
  pub gives : Gives item y

module _ {X Y : Type 0} (f : X → Option Y) where
  pub filter_map_from : (xs : List X) (y : Y) → Contains (filter_map f xs) y →
      From (λ x z. f x ≡ Some z) xs y
  filter_map_from [] y h = absurd (not_in_nil y h)
  filter_map_from (x ∷ xs) y h = go (f x) refl h (filter_map_from xs y)
    where
      go : (o : Option Y) → f x ≡ o → Contains (cons_option o (filter_map f xs)) y →
          (Contains (filter_map f xs) y → From (λ u z. f u ≡ Some z) xs y) →
          From (λ u z. f u ≡ Some z) (x ∷ xs) y
      go None is h below =
          let r = below h in
          record { item = r.item; in_list = in_tail x r.item xs r.in_list; gives = r.gives }
      go (Some z) is h below =
          ⊎_elim
          (λ same. record { item = x; in_list = in_head x xs; gives = is ∙ ap Some (sym same) })
          (λ later. let r = below later in
          record { item = r.item; in_list = in_tail x r.item xs r.in_list; gives = r.gives })
          (in_cases z y (filter_map f xs) h)

  pub filter_map_in : (xs : List X) (x : X) (y : Y) → Contains xs x → f x ≡ Some y →
      Contains (filter_map f xs) y
  filter_map_in [] x y h e = absurd (not_in_nil x h)
  filter_map_in (u ∷ xs) x y h e =
      ⊎_elim
      (λ same. here (f u) (ap f (sym same) ∙ e))
      (λ later. further (f u) (filter_map_in xs x y later e))
      (in_cases u x xs h)
    where
      here : (o : Option Y) → o ≡ Some y → Contains (cons_option o (filter_map f xs)) y
      here None is = cc
      here (Some z) is =
          let same : y ≡ z = cc in
          subst (λ w. Contains (w ∷ filter_map f xs) y) same (in_head y (filter_map f xs))

      further : (o : Option Y) → Contains (filter_map f xs) y →
          Contains (cons_option o (filter_map f xs)) y
      further None there = there
      further (Some z) there = in_tail z y (filter_map f xs) there

module _ {X Y : Type 0} (f : X → List Y) where
  pub flat_map_from : (xs : List X) (y : Y) → Contains (flat_map f xs) y →
      From (λ x z. Contains (f x) z) xs y
  flat_map_from [] y h = absurd (not_in_nil y h)
  flat_map_from (x ∷ xs) y h =
      ⊎_elim
      (λ here. record { item = x; in_list = in_head x xs; gives = here })
      (λ later. let r = flat_map_from xs y later in
      record { item = r.item; in_list = in_tail x r.item xs r.in_list; gives = r.gives })
      (Contains-append_cases (f x) (flat_map f xs) y h)

  pub flat_map_in : (xs : List X) (x : X) (y : Y) → Contains xs x → Contains (f x) y →
      Contains (flat_map f xs) y
  flat_map_in [] x y h there = absurd (not_in_nil x h)
  flat_map_in (u ∷ xs) x y h there =
      ⊎_elim
      (λ same. Contains-append_left (f u) (flat_map f xs) y
      (subst (λ w. Contains (f w) y) same there))
      (λ later. Contains-append_right (f u) (flat_map f xs) y (flat_map_in xs x y later there))
      (in_cases u x xs h)
