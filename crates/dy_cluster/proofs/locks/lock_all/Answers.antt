use Rattle.std.proofs.Common.{◌∷◌, [], reverse, length, length-append, refl, ap, ◌∙◌, sym}
use Rattle.std.proofs.Common.{arith, subst, ℕ, List, vec_len}
use Rattle.std.proofs.lemmas.List.{reverse-reverse}
use Rattle.dy_shares.specs.Shares.{NodePart}
use Rattle.dy_cluster.specs.Firsts.{AreFirstFrom}
use Rattle.dy_cluster.proofs.Firsts.{first_next}
use Rattle.dy_cluster.proofs.locks.lock_all.Goals as goal

pub loop-share-init : goal.loop-share-init
loop-share-init g c =
    let turned = c.reverse.ensures.items in (
      refl,
      refl,
      refl,
      subst (λ (ps : List NodePart). AreFirstFrom (vec_len c.args.locks.now) ps)
          (sym (ap reverse turned ∙ reverse-reverse c.args.shares.now.items)) c.requires.first,
    )

-- the share that is taken is of the next node, and has made no step
pub lock_next-requires-clause-number : goal.lock_next-requires-clause-number
lock_next-requires-clause-number g c =
    (first_next _ _ _ c.in-Some.share c.in-Some.ensures.items c.loop-share.invariant.3).0

pub lock_next-requires-clause-fresh : goal.lock_next-requires-clause-fresh
lock_next-requires-clause-fresh g c =
    (first_next _ _ _ c.in-Some.share c.in-Some.ensures.items c.loop-share.invariant.3).1

-- and what is left begins with the node behind it
pub loop-share-preserved : goal.loop-share-preserved
loop-share-preserved g c =
    let before = c.loop-share.invariant in
    let shares = ap length c.in-Some.ensures.items
    ∙ length-append c.pop.new.self.items (c.in-Some.share ∷ []) in (
      omega (arith, before.0, c.lock_next.ensures.count, shares),
      omega (arith, before.1, c.lock_next.ensures.memory),
      omega (arith, before.2, c.pop.ensures.capacity),
      subst (λ (n : ℕ). AreFirstFrom n (reverse c.pop.new.self.items))
          (sym c.lock_next.ensures.count)
          (first_next _ _ _ c.in-Some.share c.in-Some.ensures.items before.3).2,
    )
