-- The steps are all the node's own, so its seat alone grows, and with it what its share shows.
use Rattle.std.proofs.Common.{◌≡◌, ◌+◌, None, Some, length, refl, sym, ap, ◌∙◌, subst}
use Rattle.std.specs.List.{All}
use Rattle.dy_core.specs.Worlds.{layout_of}
use Rattle.dy_shares.specs.Shares.{Account, BelongsTo, NodePart, NodeStays, SessionStays, node_of, steps_of, with_steps}
use Rattle.dy_shares.specs.inside.Parts.{AreOf, Held, done_steps, entries_of}
use Rattle.dy_shares.proofs.Accounts.{no_acks, node_grown, part_is_nodes}
use Rattle.dy_shares.proofs.Additions.{node_seat, node_owned, others_stay, untold_stay}
use Rattle.dy_shares.proofs.ledgers.Ledger.node_steps.Goals as goal

-- none of them is an ack
pub append-requires-clause-ack : goal.append-requires-clause-ack
append-requires-clause-ack g c = no_acks c.args.share.now.node c.args.steps.now c.requires.own

-- the steps are of the node's seat
pub append-requires-clause-seat : goal.append-requires-clause-seat
append-requires-clause-seat g c =
    let s = c.share.inside in
    let nodes = g.J.Naming.ring.nodes in
    let own = subst (λ (p : NodePart). All (λ x. node_of x ≡ Some p.node) c.args.steps.now) (sym c.share.view_is) c.requires.own in
    subst (λ k. AreOf nodes (Some k) (entries_of None c.args.steps.now)) (sym c.share.invariant.0) (node_seat nodes s.node c.args.steps.now own)

pub append-requires-clause-owned : goal.append-requires-clause-owned
append-requires-clause-owned g c = λ within.
    let s = c.share.inside in
    let own = subst (λ (p : NodePart). All (λ x. node_of x ≡ Some p.node) c.args.steps.now) (sym c.share.view_is) c.requires.own in
    node_owned g.J.Naming.ring.nodes c.args.self.now.sessions s.node c.args.steps.now c.share.invariant.1 own

-- the share is as the log has it
pub returns-in_err-append-clause-belongs : goal.returns-in_err-append-clause-belongs
returns-in_err-append-clause-belongs g c =
    let s = c.share.inside in
    let p : NodePart = record { node = s.node; steps = done_steps s.share.part } in
    subst (BelongsTo (steps_of c.args.self.now.log)) c.share.view_is
    (part_is_nodes g.J.Naming.ring.nodes (layout_of g.J.Naming.ring g.J.Naming.n) c.args.self.now s.share p c.share.invariant.0 c.share.invariant.1 refl c.append.ensures.belongs)

pub returns-clause-belongs : goal.returns-clause-belongs
returns-clause-belongs g c =
    let s = c.share.inside in
    let p : NodePart = record { node = s.node; steps = done_steps s.share.part } in
    subst (BelongsTo (steps_of c.args.self.now.log)) c.share.view_is
    (part_is_nodes g.J.Naming.ring.nodes (layout_of g.J.Naming.ring g.J.Naming.n) c.args.self.now s.share p c.share.invariant.0 c.share.invariant.1 refl c.append.ensures.belongs)

-- the share has these steps more
pub returns-clause-share : goal.returns-clause-share
returns-clause-share g c =
    let s = c.share.inside in
    let p : NodePart = record { node = s.node; steps = done_steps s.share.part } in
    node_grown p s.share.part c.append.new.share.part (length c.args.self.now.log + 1) c.args.steps.now refl (ap (λ (h : Held). h.part) c.in_ok-append.ensures.share)
    ∙ ap (λ q. with_steps q c.args.steps.now) c.share.view_is

-- the steps are of this node alone, and nobody was told
pub returns-clause-nodes : goal.returns-clause-nodes
returns-clause-nodes g c node apart =
    subst (λ (a : Account). NodeStays c.args.self.now.log a.log node) (sym c.in_ok-append.ensures.log)
    (others_stay c.args.self.now.log c.args.steps.now c.args.share.now.node node c.requires.own apart)

pub returns-clause-sessions : goal.returns-clause-sessions
returns-clause-sessions g c session =
    subst (λ (a : Account). SessionStays c.args.self.now.log a.log session) (sym c.in_ok-append.ensures.log)
    (untold_stay c.args.self.now.log c.args.steps.now session)
