use Rattle.std.proofs.Common.{◌∷◌, [], length, length-append, refl, ap, ◌∙◌, arith}
use Rattle.dy_cluster.specs.Ends.{GoesWith}
use Rattle.dy_cluster.proofs.Together.{together_length, together_popped}
use Rattle.dy_cluster.proofs.locks.rejoin_all.Goals as goal

pub loop-share-init : goal.loop-share-init
loop-share-init g c = (
  refl,
  refl,
  refl,
  refl,
  together_length (GoesWith g.J.Naming.ring g.J.Naming.n) c.args.shares.now.items
      c.args.rests.now.items c.requires.together,
  c.requires.together,
)

-- the last share and the last rest go together
pub rejoin_one-requires : goal.rejoin_one-requires
rejoin_one-requires g c =
    record {
      together =
          (together_popped (GoesWith g.J.Naming.ring g.J.Naming.n) c.loop-share.shares.items
          c.pop.new.self.items c.loop-share.rests.items c.pop-in-Some.new.self.items c.in-Some.share
          c.in-Some-pop.rest c.in-Some.ensures.items c.in-Some-pop.ensures.items
          c.loop-share.invariant.5).1;
    }

-- and so do those before them
pub loop-share-preserved : goal.loop-share-preserved
loop-share-preserved g c =
    let before = c.loop-share.invariant in
    let shares = ap length c.in-Some.ensures.items
    ∙ length-append c.pop.new.self.items (c.in-Some.share ∷ []) in
    let all = (together_popped (GoesWith g.J.Naming.ring g.J.Naming.n) c.loop-share.shares.items
    c.pop.new.self.items c.loop-share.rests.items c.pop-in-Some.new.self.items
    c.in-Some.share c.in-Some-pop.rest c.in-Some.ensures.items c.in-Some-pop.ensures.items
    before.5).0 in (
      omega (arith, before.0, c.push_reserved.ensures.capacity),
      omega (arith, before.1, c.pop.ensures.capacity),
      omega (arith, before.2, c.pop-in-Some.ensures.capacity),
      omega (arith, before.3, c.push_reserved.ensures.len, shares),
      together_length (GoesWith g.J.Naming.ring g.J.Naming.n) c.pop.new.self.items
          c.pop-in-Some.new.self.items all,
      all,
    )
