use Rattle.std.proofs.Common.{◌≡◌, sym, ap, subst, IsTrue, slice_index_or}
use Rattle.dy_preference.specs.Preferences.{homes_of, may_hold}
use Rattle.dy_shares.specs.Shares.{NodePart}
use Rattle.dy_node.specs.Nodes.{AreDeferred, NodeState}
use Rattle.dy_node.specs.declared.messages.Message.{Message}
use Rattle.dy_node.proofs.Delivering.{all_but_first, first_there}
use Rattle.dy_node.proofs.nodes.Node.deliver_first.Goals as goal

-- the row is held, and the messages behind it wait on
pub invariant_of-self : goal.invariant_of-self
invariant_of-self g c =
    let ring = g.J.Naming.ring in
    let n = g.J.Naming.n in
    let node = c.self.inside.share.node in
    let same = ap (λ (p : NodePart). p.node) c.in-Ok.ensures.share in (
      c.hold_row.ensures.shown,
      subst (λ k. AreDeferred ring n k c.pop_front-message.new.self.items) (sym same)
          (subst (AreDeferred ring n node) (sym c.pop_front-message.ensures.rest)
          (all_but_first (λ (m : Message). IsTrue
          (may_hold (homes_of ring n m.row.key) node m.home))
          c.self.inside.waiting.items c.self.invariant.1)),
    )

-- the message is the first
pub returns-in-Err-clause-refused : goal.returns-in-Err-clause-refused
returns-in-Err-clause-refused g c =
    let m = c.in-Some.message.now in (
      m,
      first_there c.args.self.now.waiting m c.requires
          (subst (λ (x : NodeState). m ≡ slice_index_or x.waiting 0 m) c.self.view_is
          c.in-Some.ensures.lookup),
      c.in-Err.ensures.refused,
    )
