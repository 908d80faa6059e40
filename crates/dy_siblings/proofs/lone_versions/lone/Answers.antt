use Rattle.std.proofs.Common.{◌<◌, ◌+◌, ℕ, suc, List, None, length, get_or, drop, ap, arith, add-one, drop-cons}
use Rattle.std.proofs.Common.{◌≡◌, ◌∷◌, true, option_map, rules, sym, subst, ◌∙◌, ◌⊎◌, false, ⊎_elim}
use Rattle.std.proofs.lemmas.Bool.{true≢false}
use Rattle.std.proofs.lemmas.List.{nil_from_length}
use Rattle.dy_dots.specs.Dots.{DotNumbers, IsDotBefore, same_dot}
use Rattle.dy_dots.proofs.SameDots.{same_dot_self}
use Rattle.dy_siblings.specs.Versions.{VersionParts}
use Rattle.dy_siblings.specs.Siblings.{IsLone}
use Rattle.dy_siblings.specs.inside.Merging.{IsFirst, IsPlaceOf}
use Rattle.dy_siblings.proofs.Lones.{Lones, skip_before, skip_both, take_theirs, two_are_new, found_is_lone, found_has_place, none_is_lone, some_mapped, none_mapped, some_gives, none_gives}
use Rattle.dy_siblings.proofs.lone_versions.lone.Goals as goal
use Rattle.dy_siblings.proofs.lone_versions.lone.Goals.{in_default-split_first-via-in-Some-2+else-comes_before, in_default-split_first-via-in_default-split_first}

-- of two dots that differ
later : (d e : DotNumbers) → (same_dot e d ≡ false) → IsDotBefore d e ⊎ (d ≡ e) → IsDotBefore d e
later d e differ cases =
    ⊎_elim (λ before. before)
    (λ same. absurd (true≢false (sym (subst (λ x. same_dot e x ≡ true) (sym same) (same_dot_self e)) ∙ differ)))
    cases

-- what is left begins with the version at hand
begins : (vs : List VersionParts) (i : ℕ) (v : VersionParts) → i < length vs → v ≡ get_or vs i v → drop i vs ≡ v ∷ drop (i + 1) vs
begins vs i v lt is =
    drop-cons vs i v lt ∙ ap (λ x. x ∷ drop (suc i) vs) (sym is) ∙ ap (λ n. v ∷ drop n vs) (sym (add-one i))

-- both begin alike
pub loop-same-preserved : goal.loop-same-preserved
loop-same-preserved c =
    let i = c.loop-same.same in
    let mine = begins c.args.a.now i c.index-a-same.result (omega (arith, c.min-both.ensures, c.loop-same-test.true)) c.index-a-same.is in
    let theirs = begins c.args.b.now i c.index-b-same.result (omega (arith, c.min-both.ensures, c.loop-same-test.true)) c.index-b-same.is in
    let same : c.index-a-same.result.dot ≡ c.index-b-same.result.dot = search rules in (
      omega (arith, c.loop-same-test.true),
      skip_both c.args.a.now c.args.b.now (drop i c.args.a.now) (drop i c.args.b.now) None
          c.index-a-same.result c.index-b-same.result (drop (i + 1) c.args.a.now) (drop (i + 1) c.args.b.now)
          mine theirs same c.loop-same.invariant.1,
    )

-- both have one dot
pub loop-theirs-preserved-then-eq-2 : goal.loop-theirs-preserved-then-eq-2
loop-theirs-preserved-then-eq-2 c =
    let left_is : c.loop-theirs.left.now ≡ c.in-Some-split_first.mine.now ∷ c.in-Some-split_first.rest.now = search rules in
    let right_is : c.loop-theirs.right.now ≡ c.in-Some.theirs.now ∷ c.in-Some.others.now = search rules in
    let same : c.in-Some-split_first.mine.now.dot ≡ c.in-Some.theirs.now.dot = search rules in
    skip_both c.args.a.now c.args.b.now c.loop-theirs.left.now c.loop-theirs.right.now (option_map (λ p. (p.0, p.1.now)) c.loop-theirs.found)
    c.in-Some-split_first.mine.now c.in-Some.theirs.now c.in-Some-split_first.rest.now c.in-Some.others.now left_is right_is same c.loop-theirs.invariant

-- that of a comes first
pub loop-theirs-preserved-then-comes_before : goal.loop-theirs-preserved-then-comes_before
loop-theirs-preserved-then-comes_before c =
    let left_is : c.loop-theirs.left.now ≡ c.in-Some-split_first.mine.now ∷ c.in-Some-split_first.rest.now = search rules in
    let right_is : c.loop-theirs.right.now ≡ c.in-Some.theirs.now ∷ c.in-Some.others.now = search rules in
    skip_before c.args.a.now c.args.b.now c.loop-theirs.left.now c.loop-theirs.right.now (option_map (λ p. (p.0, p.1.now)) c.loop-theirs.found)
    c.in-Some-split_first.mine.now c.in-Some.theirs.now c.in-Some-split_first.rest.now c.in-Some.others.now left_is right_is
    (c.comes_before.ensures.yes c.if-comes_before.true) c.loop-theirs.invariant

-- the first of b is the second whose dot a lacks
pub returns-then-is_some-clause-none : goal.returns-then-is_some-clause-none
returns-then-is_some-clause-none c =
    let right_is : c.loop-theirs.right.now ≡ c.in-Some.theirs.now ∷ c.in-Some.others.now = search rules in
    let one = some_gives (λ p. (p.0, p.1.now)) c.loop-theirs.found (sym c.is_some.ensures ∙ c.if-is_some.true) in
    two_are_new c.args.a.now c.args.b.now c.loop-theirs.left.now c.loop-theirs.right.now (option_map (λ p. (p.0, p.1.now)) c.loop-theirs.found)
    c.loop-theirs.invariant c.in-Some.theirs.now c.in-Some.others.now right_is first (one.0.0, one.0.1.now) one.1
  where
    first : IsFirst c.in-Some.theirs.now.dot c.loop-theirs.left.now
    first =
        elim c.in_default-split_first.branch [
          | in_default-split_first-via-in-Some-2+else-comes_before w ↦
              subst (IsFirst c.in-Some.theirs.now.dot) (sym w.in-Some-split_first.ensures.cases.0)
              (later c.in-Some.theirs.now.dot w.in-Some-split_first.mine.now.dot (search rules) (w.comes_before.ensures.no w.if-comes_before.false))
          | in_default-split_first-via-in_default-split_first w ↦
              subst (IsFirst c.in-Some.theirs.now.dot) (sym (nil_from_length _ w.in_default-split_first.ensures.cases)) tt
        ]

-- the first of b is the first whose dot a lacks
pub loop-theirs-preserved : goal.loop-theirs-preserved
loop-theirs-preserved c =
    let right_is : c.loop-theirs.right.now ≡ c.in-Some.theirs.now ∷ c.in-Some.others.now = search rules in
    take_theirs c.args.a.now c.args.b.now c.loop-theirs.left.now c.loop-theirs.right.now (option_map (λ p. (p.0, p.1.now)) c.loop-theirs.found)
    c.loop-theirs.invariant c.in-Some.theirs.now c.in-Some.others.now right_is first
    (none_gives (λ p. (p.0, p.1.now)) c.loop-theirs.found (sym c.is_some.ensures ∙ c.if-is_some.false))
  where
    first : IsFirst c.in-Some.theirs.now.dot c.loop-theirs.left.now
    first =
        elim c.in_default-split_first.branch [
          | in_default-split_first-via-in-Some-2+else-comes_before w ↦
              subst (IsFirst c.in-Some.theirs.now.dot) (sym w.in-Some-split_first.ensures.cases.0)
              (later c.in-Some.theirs.now.dot w.in-Some-split_first.mine.now.dot (search rules) (w.comes_before.ensures.no w.if-comes_before.false))
          | in_default-split_first-via-in_default-split_first w ↦
              subst (IsFirst c.in-Some.theirs.now.dot) (sym (nil_from_length _ w.in_default-split_first.ensures.cases)) tt
        ]

pub returns-clause-some : goal.returns-clause-some
returns-clause-some c =
    some_mapped (λ p. (p.0, p.1.now)) (λ p. IsLone c.args.a.now c.args.b.now p.1) c.loop-theirs.found
    (found_is_lone c.args.a.now c.args.b.now c.loop-theirs.left.now (option_map (λ p. (p.0, p.1.now)) c.loop-theirs.found)
    (subst (λ r. Lones c.args.a.now c.args.b.now c.loop-theirs.left.now r (option_map (λ p. (p.0, p.1.now)) c.loop-theirs.found)) (nil_from_length _ c.in_default.ensures.cases) c.loop-theirs.invariant))

pub returns-clause-place : goal.returns-clause-place
returns-clause-place c =
    some_mapped (λ p. (p.0, p.1.now)) (λ p. IsPlaceOf c.args.a.now p.1.dot p.0) c.loop-theirs.found
    (found_has_place c.args.a.now c.args.b.now c.loop-theirs.left.now (option_map (λ p. (p.0, p.1.now)) c.loop-theirs.found)
    (subst (λ r. Lones c.args.a.now c.args.b.now c.loop-theirs.left.now r (option_map (λ p. (p.0, p.1.now)) c.loop-theirs.found)) (nil_from_length _ c.in_default.ensures.cases) c.loop-theirs.invariant))

pub returns-clause-none : goal.returns-clause-none
returns-clause-none c =
    none_mapped (λ p. (p.0, p.1.now)) ((v : VersionParts) → IsLone c.args.a.now c.args.b.now v → ⊥) c.loop-theirs.found
    (none_is_lone c.args.a.now c.args.b.now c.loop-theirs.left.now (option_map (λ p. (p.0, p.1.now)) c.loop-theirs.found)
    (subst (λ r. Lones c.args.a.now c.args.b.now c.loop-theirs.left.now r (option_map (λ p. (p.0, p.1.now)) c.loop-theirs.found)) (nil_from_length _ c.in_default.ensures.cases) c.loop-theirs.invariant))
