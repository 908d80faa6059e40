use Rattle.std.proofs.Common.{◌≡◌, ◌∙◌, ℕ, ap, refl, subst, sym, IfOk, OnOk}
use Rattle.std.specs.Result.{result_err}
use Rattle.dy_core.specs.Worlds.{layout_of}
use Rattle.dy_book.specs.Books.{BookParts, issue_steps, with_untold, world_of}
use Rattle.dy_shares.specs.Shares.{steps_of}
use Rattle.dy_node.specs.Nodes.{HoldsAs, NodeState, version_begun}
use Rattle.dy_node.specs.Refusals.{BeginRefused}
use Rattle.dy_transport.specs.Asking.{IsBegun}
use Rattle.dy_transport.proofs.Reached.{begun_fits}
use Rattle.dy_transport.proofs.reaches.begin_by.Goals as goal

-- the version is the one that the node made, and the row what the log shows it to hold
pub returns-clause-begun : goal.returns-clause-begun
returns-clause-begun g c =
    let layout = layout_of g.J.Naming.ring g.J.Naming.n in
    let key = c.args.key.now in
    let held = c.agree.new.self in
    let book = c.agree.new.book in
    let holds : HoldsAs (world_of book) held =
    subst (λ (b : BookParts). HoldsAs (world_of b) held) (sym c.agree.ensures.book)
    (subst (λ (n : NodeState). HoldsAs (world_of c.args.book.now) n) (sym c.agree.ensures.node)
    c.agree.ensures.holds) in
    subst (λ n. IfOk c.begin.result
    (λ b. IsBegun layout n c.args.place.home key c.args.context.now c.args.value b))
    (ap (λ (n : NodeState). n.part.node) c.agree.ensures.node ∙ c.requires.number)
    (begun_fits layout held.part.node c.args.place.home key c.args.context.now c.args.value
    (steps_of book.log) _ _ c.begin.result c.log_is_legal.ensures refl (holds c.args.place.home key)
    c.begin.ensures.follows c.begin.ensures.dot c.begin.ensures.key c.begin.ensures.row
    c.begin.ensures.in_row c.begin.ensures.receipt)

-- the steps of the issue are the node's own, behind the book that was lent
pub returns-clause-log : goal.returns-clause-log
returns-clause-log g c =
    let made = c.begin.new.book in
    let key = c.args.key.now in
    let context = c.args.context.now in
    subst (λ (b : BookParts). OnOk c.begin.result (made ≡ with_untold b (issue_steps c.args.place.holder
    c.args.place.home (version_begun b c.args.held.now key context c.args.value)))) c.agree.ensures.book
    (subst (λ (n : NodeState). OnOk c.begin.result (made ≡ with_untold c.agree.new.book
    (issue_steps c.args.place.holder c.args.place.home
    (version_begun c.agree.new.book n key context c.args.value)))) c.agree.ensures.node
    (subst (λ (n : ℕ). OnOk c.begin.result (made ≡ with_untold c.agree.new.book (issue_steps n
    c.args.place.home (version_begun c.agree.new.book c.agree.new.self key context c.args.value))))
    (ap (λ (n : NodeState). n.part.node) c.agree.ensures.node ∙ c.requires.number)
    c.begin.ensures.log))

-- what refuses it is what refuses the node, behind the book that was lent
pub returns-clause-cause : goal.returns-clause-cause
returns-clause-cause g c =
    let key = c.args.key.now in
    let context = c.args.context.now in
    let told = result_err c.begin.result in
    subst (λ (b : BookParts). BeginRefused b c.args.held.now key context told)
    c.agree.ensures.book
    (subst (λ (n : NodeState). BeginRefused c.agree.new.book n key context told)
    c.agree.ensures.node c.begin.ensures.refused)
