use Rattle.std.proofs.Common.{◌≡◌, ◌↔◌, ◌∷◌, ◌+◌, ◌<◌, ℕ, suc, List, [], drop, length, get_or, refl, sym, ap, ◌∙◌, subst, arith, add-one, drop-cons}
use Rattle.std.specs.FinSet as set
use Rattle.std.proofs.lemmas.Bool.{true≢false}
use Rattle.std.proofs.lemmas.List.{drop_all}
use Rattle.dy_siblings.specs.Versions.{VersionParts}
use Rattle.dy_siblings.specs.inside.Lists.{FollowNothing}
use Rattle.dy_siblings.proofs.Following.{one_more_follows_nothing}
use Rattle.dy_siblings.proofs.Members.{in_head, not_in_nil}
use Rattle.dy_siblings.proofs.lone_versions.follow_any.Goals as goal

-- what is left of the versions begins with the one at hand
begins : (vs : List VersionParts) (i : ℕ) (v : VersionParts) → i < length vs → v ≡ get_or vs i v →
    FollowNothing (drop i vs) ↔ FollowNothing vs → FollowNothing (v ∷ drop (i + 1) vs) ↔ FollowNothing vs
begins vs i v lt is so =
    subst (λ l. FollowNothing l ↔ FollowNothing vs)
    (drop-cons vs i v lt ∙ ap (λ x. x ∷ drop (suc i) vs) (sym is) ∙ ap (λ n. v ∷ drop n vs) (sym (add-one i))) so

pub loop-version-preserved : goal.loop-version-preserved
loop-version-preserved c =
    let vs = c.args.versions.now in
    let i = c.loop-version.version-index in
    let v = c.version-item.result in
    let here : FollowNothing (v ∷ drop (i + 1) vs) ↔ FollowNothing vs = begins vs i v (omega arith) c.version-item.is c.loop-version.invariant in
    let none : v.past ≡ set.empty = sym c.past.ensures.value ∙ c.is_empty.ensures.0 c.if-not-is_empty.false in
    let step : FollowNothing (v ∷ drop (i + 1) vs) ↔ FollowNothing (drop (i + 1) vs) = one_more_follows_nothing (drop (i + 1) vs) v none in
    (λ rest. here.0 (step.1 rest), λ all. step.0 (here.1 all))

pub returns-then-not-is_empty : goal.returns-then-not-is_empty
returns-then-not-is_empty c =
    let vs = c.args.versions.now in
    let i = c.loop-version.version-index in
    let v = c.version-item.result in
    let here : FollowNothing (v ∷ drop (i + 1) vs) ↔ FollowNothing vs = begins vs i v (omega arith) c.version-item.is c.loop-version.invariant in (
      λ no. absurd (true≢false no),
      λ all. sym (c.is_empty.ensures.1 (c.past.ensures.value ∙ here.1 all v (in_head v (drop (i + 1) vs)))) ∙ c.if-not-is_empty.true,
    )

pub returns : goal.returns
returns c =
    let gone : drop c.loop-version.version-index c.args.versions.now ≡ [] = drop_all c.loop-version.version-index c.args.versions.now (omega arith) in
    (λ _. c.loop-version.invariant.0 (subst FollowNothing (sym gone) (λ v h. absurd (not_in_nil v h))), λ _. refl)
