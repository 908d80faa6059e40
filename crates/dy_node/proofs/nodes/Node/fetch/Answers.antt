-- What the world holds at the node is what the node keeps, since share and book agree.
use Rattle.std.proofs.Common.{sym, ap, ◌∙◌, subst, IfOk}
use Rattle.std.proofs.lemmas.Result.{IfOk-weaker}
use Rattle.std.specs.Result.{result_err}
use Rattle.dy_siblings.specs.Siblings.{IsSameRow}
use Rattle.dy_core.specs.Worlds.{layout_of, row_at}
use Rattle.dy_core.proofs.Merging.{same_row_on, same_row_back}
use Rattle.dy_shares.specs.Shares.{NodePart}
use Rattle.dy_book.specs.Books.{BookParts, world_of}
use Rattle.dy_node.specs.Stored.{versions_at}
use Rattle.dy_node.specs.Nodes.{NodeState}
use Rattle.dy_node.specs.Refusals.{FetchRefused}
use Rattle.dy_node.proofs.Causes.{fetch_down, fetch_of}
use Rattle.dy_node.proofs.Kept.{state_holds}
use Rattle.dy_node.proofs.nodes.Node.fetch.Goals as goal

-- what the world holds at the node is what it keeps
pub returns-clause-row : goal.returns-clause-row
returns-clause-row g c =
    let home = c.args.home in
    let key = c.args.key.now in
    let fetched = c.fetch_step.result in
    let kept = state_holds (layout_of g.J.Naming.ring g.J.Naming.n) c.args.book.now
    c.self.inside.share c.self.inside.stores
    (record { belongs = c.agree.ensures.belongs; legal = c.agree.ensures.legal }) c.self.invariant.0
    home key in
    let at_book = subst (λ (b : BookParts). IfOk fetched (λ seen. IsSameRow seen.row
    (row_at (world_of b) c.agree.new.share.node home key))) c.agree.ensures.book
    c.fetch_step.ensures.row in
    let at_node = subst (λ (p : NodePart). IfOk fetched (λ seen. IsSameRow seen.row
    (row_at (world_of c.args.book.now) p.node home key))) c.agree.ensures.share at_book in
    subst (λ (n : NodeState). IfOk fetched (λ seen. IsSameRow seen.row (versions_at n.rooms home key)))
    c.self.view_is
    (IfOk-weaker fetched _ _ (λ seen same. same_row_on _ _ _ same (same_row_back _ _ kept)) at_node)

-- the node is down
pub returns-then-not-self-clause-refused : goal.returns-then-not-self-clause-refused
returns-then-not-self-clause-refused g c =
    fetch_down c.args.book.now c.args.self.now
    (sym (ap (λ (n : NodeState). n.is_up) c.self.view_is) ∙ c.if-not-self.true)

-- the book is the one that was lent
pub returns-clause-refused : goal.returns-clause-refused
returns-clause-refused g c =
    subst (λ b. FetchRefused b c.args.self.now (result_err c.fetch_step.result)) c.agree.ensures.book
    (fetch_of c.agree.new.self c.args.self.now c.fetch_step.result
    (sym (ap (λ (n : NodeState). n.is_up) c.self.view_is) ∙ c.if-not-self.false)
    c.fetch_step.ensures.steps_full c.fetch_step.ensures.only)
