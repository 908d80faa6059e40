use Rattle.std.proofs.Common.{◌≡◌, List, ◌++◌, ◌∷◌, [], take, length, length-append, sym, ap, ◌∙◌, subst, arith}
use Rattle.std.proofs.lemmas.List.{append_assoc, length-take-le, take_all, take_more}
use Rattle.dy_shares.specs.Trails.{AreKept}
use Rattle.dy_shares.proofs.Keeping.{kept_many, kept_next}
use Rattle.dy_shares.proofs.trails.keep_all.Goals as goal

-- there is room for as many as are left
pub push_reserved-requires : goal.push_reserved-requires
push_reserved-requires c =
    let l = c.loop-step in
    let old = c.args.trail.now in
    let steps = c.args.steps.now in
    let kept = l.invariant.0 in
    let long = ap length l.invariant.1 ∙ length-append c.reserve.new.self.items kept in
    let many = kept_many kept (take l.step-index steps) l.invariant.2 ∙ length-take-le l.step-index steps (omega (arith, c.loop-step-test.true)) in
    omega (arith, l.trail.ok.0, c.reserve.new.self.ok.0, long, many, c.loop-step-test.true, c.in_ok-reserve.ensures.ok, l.invariant.3)

-- one step more is kept
pub loop-step-preserved : goal.loop-step-preserved
loop-step-preserved c =
    let l = c.loop-step in
    let steps = c.args.steps.now in
    let kept = l.invariant.0 in
    let old = c.reserve.new.self.items in
    let more = take_more steps l.step-index c.step-item.result c.loop-step-test.true ∙ ap (λ x. take l.step-index steps ++ x ∷ []) (sym c.step-item.is) in (
      kept ++ c.in-Ok.kept ∷ [],
      c.push_reserved.ensures.items ∙ (ap (λ xs. xs ++ c.in-Ok.kept ∷ []) l.invariant.1 ∙ append_assoc old kept (c.in-Ok.kept ∷ [])),
      subst (AreKept (kept ++ c.in-Ok.kept ∷ [])) (sym more)
          (kept_next kept (take l.step-index steps) c.in-Ok.kept c.step-item.result l.invariant.2 c.in-Ok.ensures.ok),
      c.push_reserved.ensures.capacity ∙ l.invariant.3,
    )
