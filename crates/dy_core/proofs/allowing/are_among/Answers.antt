use Rattle.std.proofs.Common.{refl, sym, ◌∙◌, subst}
use Rattle.std.specs.List.{All, Contains}
use Rattle.std.proofs.lemmas.Bool.{true≢false}
use Rattle.std.proofs.lemmas.List.{take_all}
use Rattle.std.proofs.lemmas.List.Elements.{All-contains, All-more}
use Rattle.dy_core.proofs.allowing.are_among.Goals as goal

pub returns-then-not-is_one_of : goal.returns-then-not-is_one_of
returns-then-not-is_one_of c = (
  (λ e. absurd (true≢false (sym e))),
  (λ all.
      let inside = All-contains (λ v. Contains c.args.versions.now v) c.args.row.now c.version-item.result all
      (c.loop-version.version-index, c.loop-version-test.true, sym c.version-item.is) in
      absurd (true≢false (sym (c.is_one_of.ensures.1 inside) ∙ c.if-not-is_one_of.true))),
)

pub loop-version-preserved : goal.loop-version-preserved
loop-version-preserved c =
    All-more (λ v. Contains c.args.versions.now v) c.args.row.now c.loop-version.version-index c.version-item.result c.loop-version-test.true
    c.loop-version.invariant
    (subst (λ v. Contains c.args.versions.now v) c.version-item.is (c.is_one_of.ensures.0 c.if-not-is_one_of.false))

pub returns : goal.returns
returns c = (
  (λ e. subst (All (λ v. Contains c.args.versions.now v)) (take_all c.loop-version.version-index c.args.row.now c.loop-version-test.false) c.loop-version.invariant),
  (λ all. refl),
)
