-- One version is its merge with itself.
use Rattle.std.proofs.Common.{◌∷◌, ◌++◌, [], List, sym, ◌∙◌, subst}
use Rattle.dy_dots.proofs.SameDots.{same_dot_is}
use Rattle.dy_siblings.specs.Siblings.{AreOneByDot}
use Rattle.dy_siblings.specs.Versions.{VersionParts}
use Rattle.dy_siblings.specs.inside.Merging.{IsMerge}
use Rattle.dy_siblings.proofs.Merges.{one_merges}
use Rattle.dy_siblings.proofs.merging.are_one.Goals as goal

pub returns-in-Some-Some : goal.returns-in-Some-Some
returns-in-Some-Some c = λ same.
    let mine = c.in-Some-Some.mine.now in
    let theirs = c.in-Some-Some.theirs.now in
    let a_is = c.in-Some-Some.ensures.some in
    let b_is = c.in-Some-Some.ensures'.some in
    let agree : AreOneByDot (mine ∷ theirs ∷ []) =
    subst (λ (vs : List VersionParts). AreOneByDot (vs ++ theirs ∷ [])) a_is
    (subst (λ (vs : List VersionParts). AreOneByDot (c.args.a.now ++ vs)) b_is c.requires) in
    subst (λ (vs : List VersionParts). IsMerge vs c.args.b.now vs) (sym a_is)
    (subst (λ (vs : List VersionParts). IsMerge (mine ∷ []) vs (mine ∷ [])) (sym b_is) (
      _,
      one_merges mine theirs agree c.dot.ensures.valid
          (sym c.dot.ensures.value ∙ same_dot_is c.dot.result c.dot-in-Some-Some.result (sym c.eq.ensures ∙ same)
          ∙ c.dot-in-Some-Some.ensures.value),
    ))
