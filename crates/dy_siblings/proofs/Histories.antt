-- What the sets of versions' dots have: histories, pasts, contexts.
use Rattle.std.proofs.Common.{◌≡◌, Bool, true, false, ◌||◌, List, [], ◌∷◌, refl, sym, ap, ◌∙◌}
use Rattle.std.specs.FinSet as set
use Rattle.dy_dots.specs.Dots.{DotNumbers, DotSet, same_dot, dot_cmp}
use Rattle.dy_dots.proofs.Sets.{in_insert, in_union, same_dots}
use Rattle.dy_siblings.specs.Versions.{VersionParts, in_history, history_of}
use Rattle.dy_siblings.specs.Siblings.{covers, is_past, has_dot, context_of, own_dots}
use Rattle.dy_siblings.specs.inside.Merging.{with_pasts, with_histories, with_dots}

or_assoc : (a b c : Bool) → (a || (b || c)) ≡ ((a || b) || c)
or_assoc true b c = refl
or_assoc false b c = refl

or_turned : (a b c d : Bool) → ((a || (b || c)) || d) ≡ (b || ((a || c) || d))
or_turned true true c d = refl
or_turned true false c d = refl
or_turned false b c d = sym (or_assoc b c d)

or_false : (b : Bool) → b ≡ (b || false)
or_false true = refl
or_false false = refl

-- a set with no more dots
pub with_none : (s t : DotSet) → t ≡ set.empty → s ≡ set.union s t
with_none s t none =
    same_dots s (set.union s t) (λ d.
    or_false (set.contains s d)
    ∙ (ap (λ b. set.contains s d || b) (sym (ap (λ u. set.contains u d) none ∙ set.contains-empty dot_cmp d))
    ∙ sym (in_union s t d)))

pub in_history_set : (v : VersionParts) (d : DotNumbers) → set.contains (history_of v) d ≡ in_history v d
in_history_set v d = in_insert v.past v.dot d

-- the context has what the versions cover
pub in_context : (vs : List VersionParts) (d : DotNumbers) → set.contains (context_of vs) d ≡ covers vs d
in_context [] d = set.contains-empty dot_cmp d
in_context (v ∷ vs) d = in_union (history_of v) (context_of vs) d ∙ (λ i. in_history_set v d i || in_context vs d i)

pub in_own_dots : (vs : List VersionParts) (d : DotNumbers) → set.contains (own_dots vs) d ≡ has_dot vs d
in_own_dots [] d = set.contains-empty dot_cmp d
in_own_dots (v ∷ vs) d = in_insert (own_dots vs) v.dot d ∙ ap (λ b. same_dot v.dot d || b) (in_own_dots vs d)

pub in_with_pasts : (s : DotSet) (vs : List VersionParts) (d : DotNumbers) → set.contains (with_pasts s vs) d ≡ (set.contains s d || is_past vs d)
in_with_pasts s [] d = or_false (set.contains s d)
in_with_pasts s (v ∷ vs) d =
    in_with_pasts (set.union s v.past) vs d
    ∙ ap (λ b. b || is_past vs d) (in_union s v.past d)
    ∙ sym (or_assoc (set.contains s d) (set.contains v.past d) (is_past vs d))

in_with_histories : (s : DotSet) (vs : List VersionParts) (d : DotNumbers) → set.contains (with_histories s vs) d ≡ (set.contains s d || covers vs d)
in_with_histories s [] d = or_false (set.contains s d)
in_with_histories s (v ∷ vs) d =
    in_with_histories (set.insert (set.union s v.past) v.dot) vs d
    ∙ ap (λ b. b || covers vs d) (in_insert (set.union s v.past) v.dot d ∙ ap (λ b. same_dot v.dot d || b) (in_union s v.past d))
    ∙ turned (same_dot v.dot d) (set.contains s d) (set.contains v.past d) (covers vs d)
  where
    turned : (a b c d : Bool) → ((a || (b || c)) || d) ≡ (b || ((a || c) || d))
    turned a b c d = or_turned a b c d

in_with_dots : (s : DotSet) (vs : List VersionParts) (d : DotNumbers) → set.contains (with_dots s vs) d ≡ (set.contains s d || has_dot vs d)
in_with_dots s [] d = or_false (set.contains s d)
in_with_dots s (v ∷ vs) d =
    in_with_dots (set.insert s v.dot) vs d
    ∙ ap (λ b. b || has_dot vs d) (in_insert s v.dot d)
    ∙ turned (same_dot v.dot d) (set.contains s d) (has_dot vs d)
  where
    turned : (a b c : Bool) → ((a || b) || c) ≡ (b || (a || c))
    turned true true c = refl
    turned true false c = refl
    turned false b c = refl

pub histories_are : (vs : List VersionParts) → with_histories set.empty vs ≡ context_of vs
histories_are vs =
    same_dots _ _ (λ d. in_with_histories set.empty vs d ∙ ap (λ b. b || covers vs d) (set.contains-empty dot_cmp d) ∙ sym (in_context vs d))

pub dots_are : (vs : List VersionParts) → with_dots set.empty vs ≡ own_dots vs
dots_are vs =
    same_dots _ _ (λ d. in_with_dots set.empty vs d ∙ ap (λ b. b || has_dot vs d) (set.contains-empty dot_cmp d) ∙ sym (in_own_dots vs d))
