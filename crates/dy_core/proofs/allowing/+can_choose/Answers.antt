-- With the first of what is left, or else without it.
use Rattle.std.proofs.Common.{◌≡◌, ◌∷◌, [], ◌+◌, ◌-◌, ◌∙◌, suc, sym, subst, refl, arith, rules}
use Rattle.std.proofs.lemmas.Bool.{true≢false}
use Rattle.std.proofs.lemmas.List.{nil_from_length}
use Rattle.dy_core.specs.inside.Meanings.{CanChoose, apart_from}
use Rattle.dy_core.proofs.Choosing.{choose_none, none_to_choose, choose_with, choose_without}
use Rattle.dy_core.proofs.allowing.+can_choose.Goals as goal

pub returns-then-count-lt1-clause-ok : goal.returns-then-count-lt1-clause-ok
returns-then-count-lt1-clause-ok t c =
    let none : 0 ≡ c.args.count = omega (arith, c.if-count-lt1.true) in
    (λ _. subst (CanChoose c.args.places.now) none (choose_none c.args.places.now), λ _. refl)

pub returns-then-branch-clause-ok : goal.returns-then-branch-clause-ok
returns-then-branch-clause-ok t c =
    let p = c.in-Some.first.now in
    let rest = c.in-Some.rest.now in
    let m = c.args.count - 1 in
    let next : m + 1 ≡ c.args.count = omega (arith, c.if-count-lt1.false) in
    let left_is : c.loop-first.left.now ≡ p ∷ rest = search rules in
    let can : CanChoose (apart_from p rest) m =
    subst (λ ps. CanChoose ps m) (c.as_slice.ensures.value ∙ c.in_ok-apart.ensures.ok) (c.in_ok-can_choose.ensures.ok.0 c.if-branch.true) in
    (λ _. c.loop-first.invariant.1 (subst (λ ps. CanChoose ps c.args.count) (sym left_is) (choose_with p rest m c.args.count next can)), λ _. refl)

pub loop-first-preserved : goal.loop-first-preserved
loop-first-preserved t c =
    let p = c.in-Some.first.now in
    let rest = c.in-Some.rest.now in
    let m = c.args.count - 1 in
    let next : m + 1 ≡ c.args.count = omega (arith, c.if-count-lt1.false) in
    let left_is : c.loop-first.left.now ≡ p ∷ rest = search rules in
    let without = choose_without p rest m c.args.count next
    (λ can.
    true≢false
    (sym (c.in_ok-can_choose.ensures.ok.1 (subst (λ ps. CanChoose ps m) (sym (c.as_slice.ensures.value ∙ c.in_ok-apart.ensures.ok)) can))
    ∙ c.if-branch.false)) in (
      λ all. without.0 (subst (λ ps. CanChoose ps c.args.count) left_is (c.loop-first.invariant.0 all)),
      λ some. c.loop-first.invariant.1 (subst (λ ps. CanChoose ps c.args.count) (sym left_is) (without.1 some)),
    )

pub returns-clause-ok : goal.returns-clause-ok
returns-clause-ok t c =
    let m = c.args.count - 1 in
    let next : c.args.count ≡ suc m = omega (arith, c.if-count-lt1.false) in
    let none : c.loop-first.left.now ≡ [] = nil_from_length _ c.in_default.ensures.cases in (
      λ no. absurd (true≢false (sym no)),
      λ all. absurd (none_to_choose m (subst (CanChoose []) next (subst (λ ps. CanChoose ps c.args.count) none (c.loop-first.invariant.0 all)))),
    )
