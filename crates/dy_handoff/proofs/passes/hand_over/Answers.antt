-- One hint is asked for at its home, and all that comes is settled.
use Rattle.std.proofs.Common.{◌≡◌, ◌+◌, ◌∙◌, sym, ap, subst, arith, IsTrue}
use Rattle.dy_siblings.specs.Siblings.{Siblings}
use Rattle.dy_node.specs.Answers.{MayAsk}
use Rattle.dy_node.specs.declared.asks.Ask.TheVariants.{Store}
use Rattle.dy_transport.specs.Told.{Told}
use Rattle.dy_handoff.specs.inside.Settling.{IsUnderWay}
use Rattle.dy_handoff.proofs.Handovers.{over_is, way_asked, with_offer}
use Rattle.dy_handoff.proofs.passes.hand_over.Goals as goal

pub ask-requires-clause-may_ask : goal.ask-requires-clause-may_ask
ask-requires-clause-may_ask g c =
    let home = c.args.hint.now.0 in
    subst (λ (r : Siblings). MayAsk {J = g.row.J.Denot} g.J.Naming.ring g.J.Naming.n home
    (Store home r))
    (sym c.new-row.ensures) (c.requires.for_home 0 c.args.hint.now (omega arith))

pub settle_all-requires : goal.settle_all-requires
settle_all-requires g c =
    let old = g.T.Transport.told c.args.transport.now in
    let hint = c.args.hint.now in
    let asked : g.T.Transport.told c.ask.new.self ≡ with_offer old hint =
    c.ask.ensures ∙ ap (λ (r : Siblings). with_offer old (hint.0, r)) c.new-row.ensures in
    record {
      way = subst (λ (t : Told g.row.J.Denot). IsUnderWay t (record { offers = c.args.done.offers + 1; stored = c.args.done.stored; released = c.args.done.released }))
          (sym asked) (way_asked old hint c.args.done c.requires.way c.requires.room);
    }

pub returns-clause-over : goal.returns-clause-over
returns-clause-over g c =
    let old = g.T.Transport.told c.args.transport.now in
    let mid = g.T.Transport.told c.ask.new.self in
    let new = g.T.Transport.told c.settle_all.new.transport in
    let hint = c.args.hint.now in
    let asked : mid ≡ with_offer old hint =
    c.ask.ensures ∙ ap (λ (r : Siblings). with_offer old (hint.0, r)) c.new-row.ensures in
    let done = c.settle_all.ensures in
    over_is c.args.node _ _ hint old mid new _ asked done.asks done.settles done.way done.out
