use Rattle.std.proofs.Common.{◌≡◌, ◌+◌, refl, set, subst}
use mathlib.Core.Option.{some}
use lib.ListN.{get_elem?}
use Rattle.dy_shares.specs.inside.Agreeing.{retired}
use Rattle.dy_shares.specs.inside.Parts.{AgreesAsSession, done_acks}
use Rattle.dy_shares.specs.Shares.{SessionPart}
use Rattle.dy_shares.proofs.Later.{gets_later, spents_later}
use Rattle.dy_shares.proofs.session_shares.SessionShare.end.Goals as goal

-- the seat of the roll has the share's part, and what matched at the front matches now
pub returns-clause-agrees : goal.returns-clause-agrees
returns-clause-agrees g c =
    let s = c.self.inside in
    let i = c.self.invariant.0 in
    let nodes = g.J.Naming.ring.nodes in
    subst (λ (t : SessionPart). (a : AgreesAsSession nodes g.J.Naming.r c.args.roll.now c.args.chronicle.now t)
    × (c.end.new.self ≡ set c.args.roll.now (nodes + t.session) (retired a.part))) c.self.view_is (
      record {
        part = s.share.part;
        is_out = c.end.ensures.is_out;
        seat_has = subst (λ k. get_elem? c.args.roll.now k ≡ some s.share.part) i.seat_is c.end.ensures.agree;
        acks_are = refl;
        spent_are = spents_later s.front c.args.chronicle.now (done_acks s.share.part) s.spent.items c.learn.ensures.begins i.spent_are;
        gets_match = gets_later s.front c.args.chronicle.now g.J.Naming.r s.gets.items c.learn.ensures.begins i.gets_match;
        in_turn = i.in_turn;
      },
      subst (λ k. c.end.new.self ≡ set c.args.roll.now k (retired s.share.part)) i.seat_is c.end.ensures.roll,
    )
