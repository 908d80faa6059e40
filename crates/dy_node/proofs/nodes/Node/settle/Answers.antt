use Rattle.std.proofs.Common.{sym, ap, ◌∙◌, subst}
use Rattle.std.specs.Result.{result_err}
use Rattle.dy_node.specs.Nodes.{NodeState}
use Rattle.dy_node.specs.Settling.{ReleaseRefused}
use Rattle.dy_node.proofs.PlanCauses.{settle_down, settle_up}
use Rattle.dy_node.proofs.nodes.Node.settle.Goals as goal

-- the node is down
pub returns-then-not-self-clause-refused : goal.returns-then-not-self-clause-refused
returns-then-not-self-clause-refused g c =
    settle_down c.args.book.now c.args.self.now c.args.receipts.now
    (sym (ap (λ (n : NodeState). n.is_up) c.self.view_is) ∙ c.if-not-self.true)

-- it is up
pub returns-clause-refused : goal.returns-clause-refused
returns-clause-refused g c =
    settle_up c.args.book.now c.args.self.now c.args.receipts.now
    (result_err c.settle_receipts.result)
    (sym (ap (λ (n : NodeState). n.is_up) c.self.view_is) ∙ c.if-not-self.false)
    (subst (λ (n : NodeState). ReleaseRefused c.args.book.now n.rooms c.args.receipts.now
    (result_err c.settle_receipts.result)) c.self.view_is
    c.settle_receipts.ensures.refused)
