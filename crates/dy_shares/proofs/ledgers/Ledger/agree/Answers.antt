use Rattle.std.proofs.Common.{◌≡◌, refl, subst}
use mathlib.Core.Option.{some}
use lib.ListN.{get_elem?}
use Rattle.dy_core.specs.Worlds.{layout_of}
use Rattle.dy_shares.specs.Shares.{BelongsTo, NodePart, steps_of}
use Rattle.dy_shares.specs.inside.Parts.{done_steps}
use Rattle.dy_shares.proofs.Accounts.{node_belongs}
use Rattle.dy_shares.proofs.ledgers.Ledger.agree.Goals as goal

-- the share agrees with its seat of the roll
pub returns-clause-belongs : goal.returns-clause-belongs
returns-clause-belongs g c =
    let l = c.self.inside in
    let s = c.share.inside in
    let p : NodePart = record { node = s.node; steps = done_steps s.share.part } in
    let at = subst (λ k. get_elem? l.roll k ≡ some s.share.part) c.share.invariant.0 c.compare.ensures.agree in
    subst (λ a. BelongsTo (steps_of a.log) c.args.share.now) c.self.view_is
    (subst (BelongsTo (steps_of l.chronicle)) c.share.view_is
    (node_belongs g.J.Naming.ring.nodes (layout_of g.J.Naming.ring g.J.Naming.n) l.steps l.acks.items l.sessions l.chronicle l.roll c.self.invariant.1 p c.share.invariant.1 (record { part = s.share.part; seat_has = at; is_out = c.compare.ensures.is_out; steps_are = refl })))
