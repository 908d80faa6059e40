use Rattle.std.proofs.Common.{sym, subst, IsTrue, [], ◌∷◌}
use Rattle.std.proofs.lemmas.List.Elements.{All-nil, All-cons, All-append}
use Rattle.dy_preference.specs.Preferences.{homes_of, may_hold}
use Rattle.dy_node.specs.Nodes.{AreDeferred, NodeState}
use Rattle.dy_node.specs.declared.messages.Message.{Message}
use Rattle.dy_node.proofs.nodes.Node.push_message.Goals as goal

-- the node may hold what was deferred before, and this
pub invariant_of-self-2 : goal.invariant_of-self-2
invariant_of-self-2 g c =
    let ring = g.J.Naming.ring in
    let n = g.J.Naming.n in
    let node = c.self.inside.share.node in
    let P = λ (m : Message). IsTrue (may_hold (homes_of ring n m.row.key) node m.home) in
    let here = subst (λ (x : NodeState). IsTrue
    (may_hold (homes_of ring n c.args.row.key) x.part.node c.args.home)) (sym c.self.view_is)
    c.requires.may_hold in (
      c.self.invariant.0,
      subst (AreDeferred ring n node) (sym c.in_ok-push_back.ensures.items)
          (All-append P c.self.inside.waiting.items
          (record { home = c.args.home; row = c.args.row } ∷ []) c.self.invariant.1
          (All-cons P (record { home = c.args.home; row = c.args.row }) [] here (All-nil P))),
    )
