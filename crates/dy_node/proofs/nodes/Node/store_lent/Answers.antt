use Rattle.std.proofs.Common.{sym, ap, ◌∙◌}
use Rattle.std.specs.Result.{result_err}
use Rattle.dy_node.specs.Nodes.{NodeState}
use Rattle.dy_node.proofs.Causes.{store_down, store_up}
use Rattle.dy_node.proofs.nodes.Node.store_lent.Goals as goal

-- the node is down
pub returns-then-not-self-clause-refused : goal.returns-then-not-self-clause-refused
returns-then-not-self-clause-refused g c =
    store_down c.args.book.now c.args.self.now c.args.row.now
    (sym (ap (λ (n : NodeState). n.is_up) c.self.view_is) ∙ c.if-not-self.true)

-- it is up
pub returns-clause-refused : goal.returns-clause-refused
returns-clause-refused g c =
    store_up c.args.book.now c.args.self.now c.args.row.now (result_err c.hold_lent.result)
    (sym (ap (λ (n : NodeState). n.is_up) c.self.view_is) ∙ c.if-not-self.false)
    c.hold_lent.ensures.refused
