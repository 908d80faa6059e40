use Rattle.std.proofs.Common.{take, sym, ◌∙◌, subst, ⊎_elim, get_or}
use Rattle.std.specs.List.{Contains}
use Rattle.std.proofs.lemmas.Bool.{true≢false}
use Rattle.std.proofs.lemmas.List.{take_more}
use Rattle.std.proofs.lemmas.List.Elements.{Contains-push_cases}
use Rattle.dy_core.proofs.allowing.is_one_of.Goals as goal

-- the version is not the next one either
pub loop-other-preserved : goal.loop-other-preserved
loop-other-preserved c = λ inside.
    let versions = c.args.versions.now in
    let i = c.loop-other.other-index in
    let x = c.other-item.result in
    ⊎_elim c.loop-other.invariant
    (λ same. true≢false (sym (c.is_same.ensures.1 (c.other-item.is ∙ same)) ∙ c.if-is_same.false))
    (Contains-push_cases (take i versions) (get_or versions i x) c.args.version.now
    (subst (λ l. Contains l c.args.version.now) (take_more versions i x c.loop-other-test.true) inside))
