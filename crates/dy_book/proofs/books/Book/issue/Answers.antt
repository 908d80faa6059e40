-- The index is that of the book before the issue wherever a growth was refused, and of the book
-- after both steps where the part was written back; the version's own past, named whole, gives it
-- again.
use Rattle.std.proofs.Common.{◌≡◌, ◌++◌, map, unwrap_or, Some, OnOk, OnErr, sym, ap, ◌∙◌, subst}
use Rattle.std.proofs.Common.{arith}
use Rattle.std.proofs.lemmas.Grind.{common_steps}
use Rattle.std.specs.HashMap.Entry.{map_with_value}
use Rattle.dy_core.specs.Worlds.{layout_of}
use Rattle.dy_core.specs.Steps.{version_made}
use Rattle.dy_core.specs.Logs.{world_after, IsLegal}
use Rattle.dy_shares.specs.Shares.{Account, steps_of, untold}
use Rattle.dy_book.specs.Books.{MayIssue, issue_steps, world_of}
use Rattle.dy_book.specs.inside.Kept.{IsBook}
use Rattle.dy_index.specs.Indexes.{IsPart, part_at}
use Rattle.dy_book.proofs.Bookkeeping.{book_rewritten, counter_few, issue_book}
use Rattle.dy_book.proofs.Holding.{issue_makes}
use Rattle.dy_index.proofs.Parting.{part_or_none}
use Rattle.dy_book.proofs.books.Book.issue.Goals as goal

pub invariant_of-self-in_err-entry : goal.invariant_of-self-in_err-entry
invariant_of-self-in_err-entry g c =
    let b = c.self.inside in
    let same : c.entry.follows.lender-at-none.entries ≡ b.keys.entries =
    subst (λ r. OnErr r (c.entry.follows.lender-at-none.entries ≡ b.keys.entries))
    c.in_err-entry.was c.entry.follows.holds-at-none in
    subst (λ es. IsBook g.J.Naming.ring g.J.Naming.n g.J.Naming.r c.agree.new.self.log
    b.options b.versions es) (sym same)
    (subst (λ (a : Account). IsBook g.J.Naming.ring g.J.Naming.n g.J.Naming.r a.log b.options
    b.versions b.keys.entries) (sym c.agree.ensures.log) c.self.invariant)

pub issue_alone-requires-clause-part : goal.issue_alone-requires-clause-part
issue_alone-requires-clause-part g c =
    let b = c.self.inside in
    let w = world_after (steps_of b.ledger.log) in
    let key = c.in_ok-key.key in
    let key_is = c.in_ok-key.ensures.value ∙ c.key.ensures.value in
    subst (λ (a : Account). IsPart (world_after (steps_of a.log)) c.args.version.now.key
    (Some c.or_insert-part.result.now)) (sym c.agree.ensures.log)
    (subst (λ k. IsPart w k (Some c.or_insert-part.result.now)) key_is
    (subst (λ p. IsPart w key (Some p))
    (sym (c.or_insert-part.ensures.value
    ∙ ap (λ o. unwrap_or o c.new.result) c.in_ok-entry.ensures.value))
    (part_or_none w key (part_at b.keys.entries key) c.new.result
    c.new.ensures.made c.new.ensures.places (c.self.invariant.index key))))

pub invariant_of-self-in_err-receipt : goal.invariant_of-self-in_err-receipt
invariant_of-self-in_err-receipt g c =
    let b = c.self.inside in
    let keys = map_with_value c.in_ok-entry.entry c.issue_alone.new.part in
    let same : c.entry.follows.lender keys ≡ keys =
    subst (λ r. OnOk r (c.entry.follows.lender keys ≡ keys)) c.in_ok-entry.was
    (c.entry.follows.holds keys) in
    book_rewritten g.J.Naming.ring g.J.Naming.n g.J.Naming.r b.ledger.log b.options
    b.versions b.keys.entries c.self.invariant
    c.in_ok-key.key c.args.version.now.key (c.in_ok-key.ensures.value ∙ c.key.ensures.value)
    c.issue_alone.new.part _
    (λ q. let written = (c.in_ok-entry.ensures.update.0 c.issue_alone.new.part).0 q in
    grind (arith, common_steps, written, same))
    c.issue_alone.new.ledger.log
    (ap (λ a. a.log) (c.in_err-receipt.ensures.err.0 ∙ c.agree.ensures.log))
    c.issue_alone.ensures.part

pub invariant_of-self-2 : goal.invariant_of-self-2
invariant_of-self-2 g c =
    let b = c.self.inside in
    let v = c.args.version.now in
    let node = c.args.share.now.node in
    let may = subst (λ s. MayIssue s node v) (sym c.self.view_is) c.requires.may in
    let node_is = ap (λ p. p.node) c.agree.ensures.share in
    let log_is = ap (λ a. a.log) c.in_ok-receipt.ensures.log
    ∙ (λ i. (c.agree.ensures.log i).log ++ map untold (issue_steps (node_is i) c.args.home v)) in
    let keys = map_with_value c.in_ok-entry.entry c.issue_alone.new.part in
    let same : c.entry.follows.lender keys ≡ keys =
    subst (λ r. OnOk r (c.entry.follows.lender keys ≡ keys)) c.in_ok-entry.was
    (c.entry.follows.holds keys) in
    issue_book g.J.Naming.ring g.J.Naming.n g.J.Naming.r b.ledger.log b.options b.versions
    b.keys.entries c.self.invariant
    node c.args.home v may.next may.counter_left c.requires.may_hold may.versions_left may.room
    c.in_ok-key.key (c.in_ok-key.ensures.value ∙ c.key.ensures.value)
    c.issue_alone.new.part _
    (λ q. let written = (c.in_ok-entry.ensures.update.0 c.issue_alone.new.part).0 q in
    grind (arith, common_steps, written, same))
    c.issue_alone.new.ledger.log log_is c.issue_alone.ensures.part

pub returns-clause-issued : goal.returns-clause-issued
returns-clause-issued g c =
    let layout = layout_of g.J.Naming.ring g.J.Naming.n in
    let v = c.args.version.now in
    let node = c.args.share.now.node in
    let legal = subst (λ s. IsLegal layout (steps_of s.log)) c.self.view_is
    c.self.invariant.legal in
    let may = subst (λ s. MayIssue s node v) (sym c.self.view_is) c.requires.may in
    let b = c.self.inside in
    subst (λ s. version_made (world_of s) node v.key v.past v.value ≡ v) c.self.view_is
    (issue_makes layout b.ledger.log c.self.invariant.legal node c.args.home v may.next
    (counter_few g.J.Naming.ring g.J.Naming.n g.J.Naming.r b.ledger.log b.options b.versions
    b.keys.entries c.self.invariant node c.args.home v may.next may.counter_left
    c.requires.may_hold)
    c.requires.may_hold)
