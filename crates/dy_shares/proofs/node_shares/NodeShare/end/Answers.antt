use Rattle.std.proofs.Common.{◌≡◌, set, refl, subst}
use mathlib.Core.Option.{some}
use lib.ListN.{get_elem?}
use Rattle.dy_shares.specs.Shares.{NodePart}
use Rattle.dy_shares.specs.inside.Agreeing.{retired}
use Rattle.dy_shares.specs.inside.Parts.{AgreesAsNode}
use Rattle.dy_shares.proofs.node_shares.NodeShare.end.Goals as goal

-- the seat of the roll had the share's part, and is marked
pub returns-clause-agrees : goal.returns-clause-agrees
returns-clause-agrees g c =
    let s = c.self.inside in
    let i = c.self.invariant in
    let roll = c.args.roll.now in
    subst (λ (p : NodePart). (a : AgreesAsNode roll p)
    × (c.end.new.self ≡ set roll p.node (retired a.part))) c.self.view_is (
      record {
        part = s.share.part;
        seat_has = subst (λ k. get_elem? roll k ≡ some s.share.part) i.0 c.end.ensures.agree;
        is_out = c.end.ensures.is_out;
        steps_are = refl;
      },
      subst (λ k. c.end.new.self ≡ set roll k (retired s.share.part)) i.0 c.end.ensures.roll,
    )
