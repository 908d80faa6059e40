-- What is planned is of the book that was lent, and past the plan want of memory is all that can
-- be.
use Rattle.std.proofs.Common.{◌≡◌, ◌∷◌, [], None, Some, sym, ap, ◌∙◌, subst}
use Rattle.dy_siblings.specs.Siblings.{Siblings, IsSameRow, merge}
use Rattle.dy_siblings.specs.declared.versions.Version.{Version}
use Rattle.dy_core.specs.Steps.{version_made}
use Rattle.dy_shares.specs.Shares.{NodePart}
use Rattle.dy_dots.specs.declared.faults.Fault.TheVariants.{OutOfMemory}
use Rattle.dy_book.specs.Books.{BookParts, world_of}
use Rattle.dy_node.specs.Stored.{versions_at}
use Rattle.dy_node.specs.Nodes.{NodeState, version_begun}
use Rattle.dy_node.proofs.PlanCauses.{begin_agreed, begin_down, plan_memory}
use Rattle.dy_node.proofs.nodes.Node.begin.Goals as goal

-- the node is down
pub returns-then-not-self-clause-refused : goal.returns-then-not-self-clause-refused
returns-then-not-self-clause-refused g c =
    begin_down c.args.book.now c.args.self.now c.args.key.now c.args.context.now
    (sym (ap (λ (n : NodeState). n.is_up) c.self.view_is) ∙ c.if-not-self.true)

-- the version is not planned
pub returns-in-Err-clause-refused : goal.returns-in-Err-clause-refused
returns-in-Err-clause-refused g c =
    begin_agreed c.agree.new.self c.args.book.now c.agree.new.share c.args.self.now c.args.key.now
    c.args.context.now (Some c.in-Err.fault)
    c.agree.ensures.book (c.agree.ensures.share ∙ ap (λ (n : NodeState). n.part) c.self.view_is)
    (sym (ap (λ (n : NodeState). n.is_up) c.self.view_is) ∙ c.if-not-self.false)
    c.in-Err.ensures.refused

-- it is planned, and want of memory is all that can be
pub returns-in-Err-issue_row-clause-refused : goal.returns-in-Err-issue_row-clause-refused
returns-in-Err-issue_row-clause-refused g c =
    begin_agreed c.agree.new.self c.args.book.now c.agree.new.share c.args.self.now c.args.key.now
    c.args.context.now (Some OutOfMemory)
    c.agree.ensures.book (c.agree.ensures.share ∙ ap (λ (n : NodeState). n.part) c.self.view_is)
    (sym (ap (λ (n : NodeState). n.is_up) c.self.view_is) ∙ c.if-not-self.false)
    (plan_memory c.agree.new.self c.agree.new.share.node c.args.key.now c.args.context.now
    c.in-Ok.ensures.refused)

pub returns-clause-refused : goal.returns-clause-refused
returns-clause-refused g c =
    begin_agreed c.agree.new.self c.args.book.now c.agree.new.share c.args.self.now c.args.key.now
    c.args.context.now None
    c.agree.ensures.book (c.agree.ensures.share ∙ ap (λ (n : NodeState). n.part) c.self.view_is)
    (sym (ap (λ (n : NodeState). n.is_up) c.self.view_is) ∙ c.if-not-self.false)
    c.in-Ok.ensures.refused

-- the row is the one that is kept
pub vouch_kept-vouched-requires-clause-kept : goal.vouch_kept-vouched-requires-clause-kept
vouch_kept-vouched-requires-clause-kept g c =
    c.in-Ok-issue_row.ensures.kept
    ∙ ap (λ k. versions_at c.issue_row.new.stores.rooms c.args.home k)
    (sym c.in-Ok-issue_row.ensures.key)

-- the row is that of the version that the node would make
pub returns-clause-row : goal.returns-clause-row
returns-clause-row g c =
    let home = c.args.home in
    let key = c.args.key.now in
    let row = c.in-Ok-issue_row.issued.0 in
    let begun = version_begun c.args.book.now c.args.self.now key c.args.context.now c.args.value in
    let version_is : c.in-Ok.planned.0 ≡ version_begun c.args.book.now c.args.self.now key
    c.args.context.now c.args.value =
    c.in-Ok.ensures.version
    ∙ ap (λ (b : BookParts). version_made (world_of b) c.agree.new.share.node key c.args.context.now
    c.args.value) c.agree.ensures.book
    ∙ ap (λ (p : NodePart). version_made (world_of c.args.book.now) p.node key c.args.context.now
    c.args.value) c.agree.ensures.share
    ∙ ap (λ (n : NodeState). version_made (world_of c.args.book.now) n.part.node key
    c.args.context.now c.args.value) c.self.view_is in
    subst (λ (n : NodeState). IsSameRow c.vouch_kept-vouched.result.versions
    (merge (versions_at n.rooms home key) (begun ∷ []))) c.self.view_is
    (subst (λ (r : Siblings). IsSameRow r.versions
    (merge (versions_at c.self.inside.stores.rooms home key) (begun ∷ [])))
    (sym c.vouch_kept-vouched.ensures.row)
    (subst (λ (v : Version). IsSameRow row.versions
    (merge (versions_at c.self.inside.stores.rooms home v.key) (v ∷ []))) version_is
    c.in-Ok-issue_row.ensures.whole))
