use Rattle.std.proofs.Common.{◌+◌, ◌++◌, ◌∷◌, [], ◌∙◌, map, refl, sym, ap, subst}
use Rattle.std.proofs.lemmas.List.{append-nil, append_assoc}
use Rattle.std.proofs.lemmas.List.Elements.{All-cons, All-nil}
use Rattle.dy_shares.specs.inside.Parts.{AgreesAsSession}
use Rattle.dy_shares.specs.Shares.{SessionPart}
use Rattle.dy_shares.proofs.Returning.{agreed_before, none_back, one_back}
use Rattle.dy_shares.proofs.endings.end_sessions.Goals as goal

pub loop-share-init : goal.loop-share-init
loop-share-init g c = (
  [],
  sym (append-nil c.args.shares.items),
  refl,
  All-nil (AgreesAsSession g.J.Naming.ring.nodes g.J.Naming.r c.args.roll.now c.args.chronicle.now),
  none_back c.args.roll.now,
)

-- the share that was taken agrees, its seat is marked, and the log stays
pub loop-share-preserved : goal.loop-share-preserved
loop-share-preserved g c =
    let l = c.loop-share in
    let i = l.invariant in
    let share = c.in-Some.share in
    let gone = i.0 in
    let nodes = g.J.Naming.ring.nodes in
    let r = g.J.Naming.r in
    let a = c.end.ensures.agrees.0 in
    let seats = map (λ (s : SessionPart). nodes + s.session) gone in
    let agrees = agreed_before nodes r c.args.roll.now l.roll seats c.args.chronicle.now i.4 share
    (subst (λ log. AgreesAsSession nodes r l.roll log share) i.2 a) in (
      share ∷ gone,
      i.1 ∙ ap (λ xs. xs ++ gone) c.in-Some.ensures.items ∙ append_assoc c.pop.new.self.items (share ∷ []) gone,
      c.end.ensures.chronicle ∙ i.2,
      All-cons (AgreesAsSession nodes r c.args.roll.now c.args.chronicle.now) share gone agrees i.3,
      one_back c.args.roll.now l.roll c.end.new.roll seats i.4 (nodes + share.session) a.part a.seat_has a.is_out c.end.ensures.agrees.1,
    )
