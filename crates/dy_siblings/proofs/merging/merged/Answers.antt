use Rattle.std.proofs.Common.{◌≡◌, sym, subst, [], ◌∷◌}
use Rattle.std.proofs.lemmas.Result.{IfOk-weaker}
use Rattle.dy_siblings.specs.inside.Lists.{items_of}
use Rattle.dy_siblings.specs.inside.Merging.{IsMerge, IsUnionOutside}
use Rattle.dy_siblings.proofs.Walking.{among_is_merge, kept_is_merge}
use Rattle.dy_siblings.proofs.merging.merged.Goals as goal

pub returns-clause-ok : goal.returns-clause-ok
returns-clause-ok c =
    IfOk-weaker c.union_outside.result (λ kept. IsUnionOutside c.in_ok-past.past c.args.a.now c.args.b.now (items_of kept)) (λ kept. IsMerge c.args.a.now c.args.b.now (items_of kept))
    (λ kept. kept_is_merge c.in_ok-past.past c.args.a.now c.args.b.now (items_of kept) c.in_ok-past.ensures.ok)
    c.union_outside.ensures.ok

-- of two lists of one version, the newer one stays
pub returns-in-Some-clause-ok : goal.returns-in-Some-clause-ok
returns-in-Some-clause-ok c =
    subst (λ w. IsMerge c.args.a.now c.args.b.now (w ∷ [])) (sym c.in_ok-try_clone.ensures.value)
    (subst (λ x. IsMerge x c.args.b.now (c.in-Some.version.now ∷ [])) (sym c.in-Some-Some.ensures.some)
    (subst (λ y. IsMerge (c.in-Some-Some.mine.now ∷ []) y (c.in-Some.version.now ∷ [])) (sym c.in-Some-Some.ensures'.some) c.in-Some.ensures))

-- where the dots of the first are among those of the second, the second stays
pub returns-then-are_among-clause-ok : goal.returns-then-are_among-clause-ok
returns-then-are_among-clause-ok c =
    IfOk-weaker c.copied.result (λ kept. items_of kept ≡ c.args.b.now) (λ kept. IsMerge c.args.a.now c.args.b.now (items_of kept))
    (λ kept same. subst (IsMerge c.args.a.now c.args.b.now) (sym same)
    (among_is_merge c.args.a.now c.args.b.now c.requires.agree c.requires.b_rises c.requires.b_siblings (c.are_among.ensures c.if-are_among.true)))
    c.copied.ensures.ok
