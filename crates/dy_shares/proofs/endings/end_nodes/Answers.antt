use Rattle.std.proofs.Common.{◌<◌, ◌++◌, ◌∷◌, [], ◌∙◌, map, sym, ap}
use Rattle.std.proofs.lemmas.List.{append-nil, append_assoc}
use Rattle.std.proofs.lemmas.List.Elements.{All-cons, All-nil}
use Rattle.dy_shares.specs.inside.Parts.{AgreesAsNode}
use Rattle.dy_shares.specs.Shares.{NodePart}
use Rattle.dy_shares.proofs.Returning.{none_back, one_back, was_there}
use Rattle.dy_shares.proofs.endings.end_nodes.Goals as goal

pub loop-share-init : goal.loop-share-init
loop-share-init g c = (
  [],
  sym (append-nil c.args.shares.items),
  All-nil (λ (p : NodePart). p.node < g.J.Naming.ring.nodes),
  All-nil (AgreesAsNode c.args.roll.now),
  none_back c.args.roll.now,
)

-- the share that was taken agrees, and its seat is marked
pub loop-share-preserved : goal.loop-share-preserved
loop-share-preserved g c =
    let l = c.loop-share in
    let i = l.invariant in
    let share = c.in-Some.share in
    let gone = i.0 in
    let a = c.end.ensures.agrees.0 in
    let seats = map (λ (p : NodePart). p.node) gone in (
      share ∷ gone,
      i.1 ∙ ap (λ xs. xs ++ gone) c.in-Some.ensures.items ∙ append_assoc c.pop.new.self.items (share ∷ []) gone,
      All-cons (λ (p : NodePart). p.node < g.J.Naming.ring.nodes) share gone c.end.ensures.low i.2,
      All-cons (AgreesAsNode c.args.roll.now) share gone (record {
        part = a.part;
        seat_has = was_there c.args.roll.now l.roll c.end.new.roll seats i.4 share.node a.part a.seat_has a.is_out c.end.ensures.agrees.1;
        is_out = a.is_out;
        steps_are = a.steps_are;
      }) i.3,
      one_back c.args.roll.now l.roll c.end.new.roll seats i.4 share.node a.part a.seat_has a.is_out c.end.ensures.agrees.1,
    )
