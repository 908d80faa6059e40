use Rattle.std.proofs.Common.{◌∷◌, [], length, length-append, ap, ◌∙◌, arith}
use Rattle.dy_cluster.specs.Ends.{GoesWith}
use Rattle.dy_cluster.proofs.Together.{together_length, together_pushed}
use Rattle.dy_cluster.proofs.locks.retire_all.Goals as goal

-- the share and the rest of a node that retires go together
pub loop-lock-preserved : goal.loop-lock-preserved
loop-lock-preserved g c =
    let before = c.loop-lock.invariant in
    let shares = ap length c.push_reserved.ensures.items
    ∙ length-append c.loop-lock.shares.items (c.retire_one-share.result.0 ∷ []) in
    let all = together_pushed (GoesWith g.J.Naming.ring g.J.Naming.n) c.loop-lock.shares.items
    c.push_reserved.new.self.items c.loop-lock.rests.items
    c.push_reserved-in-Some.new.self.items c.retire_one-share.result.0 c.retire_one-share.result.1
    c.push_reserved.ensures.items c.push_reserved-in-Some.ensures.items before.5
    c.retire_one-share.ensures.together in (
      omega (arith, before.0, c.pop.ensures.capacity),
      omega (arith, before.1, c.push_reserved.ensures.capacity),
      omega (arith, before.2, c.push_reserved-in-Some.ensures.capacity),
      omega (arith, before.3, c.in-Some.ensures.len, shares),
      together_length (GoesWith g.J.Naming.ring g.J.Naming.n) c.push_reserved.new.self.items
          c.push_reserved-in-Some.new.self.items all,
      all,
    )
