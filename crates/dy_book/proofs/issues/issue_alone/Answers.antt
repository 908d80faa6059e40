use Rattle.std.proofs.Common.{ap, ◌∙◌}
use Rattle.dy_core.specs.Worlds.{layout_of}
use Rattle.dy_book.proofs.Bookkeeping.{issue_receipt}
use Rattle.dy_book.proofs.issues.issue_alone.Goals as goal

-- the log with its two steps has what the receipt says
pub receipt-requires : goal.receipt-requires
receipt-requires g c =
    issue_receipt (layout_of g.J.Naming.ring g.J.Naming.n) c.args.ledger.now.log c.requires.legal
    c.args.share.now.node c.args.home c.args.version.now c.requires.next c.requires.room
    c.requires.may_hold c.issue_in.new.ledger.log
    (ap (λ a. a.log) c.in_ok-issue_in.ensures.log)
    c.in_ok-key.key (c.in_ok-key.ensures.value ∙ c.key.ensures.value) c.dot.result
    c.dot.ensures.value c.node-node.result c.node-node.ensures.value
