-- What a context names, version by version.
use Rattle.std.proofs.Common.{◌≡◌, ℕ, ◌+◌, ◌<◌, Bool, true, false, ◌&&◌, ◌||◌, List, [], ◌∷◌, length, take, get_or, refl, sym, ap, ◌∙◌}
use Rattle.std.specs.List.{Contains}
use Rattle.std.specs.FinSet as set
use Rattle.std.specs.Cmp.{both_ways as both_ways_same}
use Rattle.std.proofs.lemmas.Bool.{and_parts, and_from}
use Rattle.std.proofs.lemmas.List.{take_more}
use Rattle.dy_dots.specs.Dots.{DotSet, same_dot}
use Rattle.dy_siblings.specs.Versions.{in_history}
use Rattle.dy_siblings.specs.Siblings.{same_key, IsSameRow}
use Rattle.dy_core.specs.Steps.{past_of}
use Rattle.dy_core.specs.inside.Meanings.{is_named, named_in}
use Rattle.dy_dots.specs.declared.dots.Dot.{Dot}
use Rattle.dy_siblings.specs.declared.versions.Version.{Version}
use Rattle.dy_siblings.proofs.Members.{any_gives, any_from}
use Rattle.std.proofs.lemmas.List.Folds.{list_any-append}
use Rattle.dy_dots.proofs.Sets.{in_insert, in_union, dot_total, dot_antisymmetric}
use Rattle.dy_siblings.proofs.SameKeys.{same_key_is, same_key_self}
use Rattle.dy_core.proofs.Kept.{Named, past_gives, past_from}

named_push : (vs : List Version) (i : ℕ) (v : Version) → i < length vs → v ≡ get_or vs i v → (key : List ℕ) (context : DotSet) (d : Dot) →
    named_in (take (i + 1) vs) key context d ≡ (named_in (take i vs) key context d || (is_named v key context && in_history v d))
named_push vs i v lt is key context d =
    ap (λ xs. named_in xs key context d) (take_more vs i v lt)
    ∙ list_any-append (λ x. is_named x key context && in_history x d) (take i vs) (get_or vs i v ∷ [])
    ∙ ap (λ x. named_in (take i vs) key context d || ((is_named x key context && in_history x d) || false)) (sym is)
    ∙ ap (λ b. named_in (take i vs) key context d || b) (or_false (is_named v key context && in_history v d))
  where
    or_false : (a : Bool) → (a || false) ≡ a
    or_false true = refl
    or_false false = refl

-- the step of the loop at a version that is named
pub named_step : (vs : List Version) (i : ℕ) (v : Version) → i < length vs → v ≡ get_or vs i v → (key : List ℕ) (context past : DotSet) →
    ((d : Dot) → set.contains past d ≡ named_in (take i vs) key context d) → is_named v key context ≡ true →
    (d : Dot) → set.contains (set.insert (set.union past v.past) v.dot) d ≡ named_in (take (i + 1) vs) key context d
named_step vs i v lt is key context past before named d =
    in_insert (set.union past v.past) v.dot d
    ∙ ap (λ b. same_dot v.dot d || b) (in_union past v.past d)
    ∙ moved (same_dot v.dot d) (set.contains past d) (set.contains v.past d)
    ∙ (λ j. before d j || (sym named j && in_history v d))
    ∙ sym (named_push vs i v lt is key context d)
  where
    moved : (a b c : Bool) → (a || (b || c)) ≡ (b || (a || c))
    moved true true c = refl
    moved true false c = refl
    moved false true c = refl
    moved false false c = refl

-- and at one that is not
pub other_step : (vs : List Version) (i : ℕ) (v : Version) → i < length vs → v ≡ get_or vs i v → (key : List ℕ) (context past : DotSet) →
    ((d : Dot) → set.contains past d ≡ named_in (take i vs) key context d) → is_named v key context ≡ false →
    (d : Dot) → set.contains past d ≡ named_in (take (i + 1) vs) key context d
other_step vs i v lt is key context past before other d =
    before d
    ∙ or_false (named_in (take i vs) key context d)
    ∙ ap (λ b. named_in (take i vs) key context d || (b && in_history v d)) (sym other)
    ∙ sym (named_push vs i v lt is key context d)
  where
    or_false : (a : Bool) → a ≡ (a || false)
    or_false true = refl
    or_false false = refl

pub named_gives : (vs : List Version) (key : List ℕ) (context : DotSet) (d : Dot) → named_in vs key context d ≡ true → Named vs key context d
named_gives vs key context d e =
    let f = any_gives (λ v. is_named v key context && in_history v d) vs e in
    let outer = and_parts (is_named f.item key context) (in_history f.item d) f.passes in
    let inner = and_parts (same_key f.item.key key) (set.contains context f.item.dot) outer.0 in
    record { version = f.item; in_list = f.in_list; key_is = same_key_is f.item.key key inner.0; named = inner.1; reaches = outer.1 }

named_from : (vs : List Version) (key : List ℕ) (context : DotSet) (d : Dot) → Named vs key context d → named_in vs key context d ≡ true
named_from vs key context d n =
    any_from (λ v. is_named v key context && in_history v d) vs n.version n.in_list
    (and_from (is_named n.version key context) (in_history n.version d)
    (and_from (same_key n.version.key key) (set.contains context n.version.dot) (ap (λ k. same_key k key) n.key_is ∙ same_key_self key) n.named)
    n.reaches)

named_among : (xs ys : List Version) (key : List ℕ) (context : DotSet) (d : Dot) → ((v : Version) → Contains xs v → Contains ys v) →
    Named xs key context d → Named ys key context d
named_among xs ys key context d within n =
    record { version = n.version; in_list = within n.version n.in_list; key_is = n.key_is; named = n.named; reaches = n.reaches }

-- the set that a list of the same versions gives, in whatever order, is the past of a version made now
pub past_from_list : (vs issued : List Version) → IsSameRow vs issued → (key : List ℕ) (context past : DotSet) →
    ((d : Dot) → set.contains past d ≡ named_in vs key context d) → past ≡ past_of issued key context
past_from_list vs issued same key context past says =
    set.same_set dot_total dot_antisymmetric past (past_of issued key context) (λ d.
    says d
    ∙ both_ways_same (named_in vs key context d) (set.contains (past_of issued key context) d)
    (λ e. past_from issued key context d (named_among vs issued key context d (λ v. (same v).0) (named_gives vs key context d e)))
    (λ e. named_from vs key context d (named_among issued vs key context d (λ v. (same v).1) (past_gives issued key context d e))))
