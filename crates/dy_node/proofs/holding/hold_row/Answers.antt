-- The row is lent, and all is as of what is lent.
use Rattle.std.proofs.Common.{◌≡◌, ◌∷◌, [], IsTrue, sym, subst}
use Rattle.std.specs.Result.{IfOk, OnOk, result_err}
use Rattle.dy_siblings.specs.Siblings.{Siblings}
use Rattle.dy_preference.specs.Preferences.{homes_of, may_hold}
use Rattle.dy_core.specs.Steps.{place_for}
use Rattle.dy_core.specs.declared.steps.Step.TheVariants.{Hold}
use Rattle.dy_shares.specs.Shares.{with_steps}
use Rattle.dy_book.specs.Books.{receipts_of, with_untold}
use Rattle.dy_node.specs.Refusals.{HoldRefused}
use Rattle.dy_node.proofs.holding.hold_row.Goals as goal

pub hold_lent-requires-clause-may_hold : goal.hold_lent-requires-clause-may_hold
hold_lent-requires-clause-may_hold g c =
    subst (λ (r : Siblings). IsTrue
    (may_hold (homes_of g.J.Naming.ring g.J.Naming.n r.key) c.args.share.now.node c.args.home))
    (sym c.new-lent.ensures) c.requires.may_hold

pub returns-clause-log : goal.returns-clause-log
returns-clause-log g c =
    subst (λ (r : Siblings). OnOk c.hold_lent.result (c.hold_lent.new.book
    ≡ with_untold c.args.book.now (Hold (place_for c.args.share.now.node c.args.home) r ∷ [])))
    c.new-lent.ensures c.hold_lent.ensures.log

pub returns-clause-share : goal.returns-clause-share
returns-clause-share g c =
    subst (λ (r : Siblings). OnOk c.hold_lent.result (c.hold_lent.new.share
    ≡ with_steps c.args.share.now (Hold (place_for c.args.share.now.node c.args.home) r ∷ [])))
    c.new-lent.ensures c.hold_lent.ensures.share

pub returns-clause-receipts : goal.returns-clause-receipts
returns-clause-receipts g c =
    subst (λ (r : Siblings). IfOk c.hold_lent.result (λ receipts. receipts.items
    ≡ receipts_of r.versions c.args.share.now.node c.args.home))
    c.new-lent.ensures c.hold_lent.ensures.receipts

pub returns-clause-refused : goal.returns-clause-refused
returns-clause-refused g c =
    subst (λ (r : Siblings). HoldRefused c.args.book.now r (result_err c.hold_lent.result))
    c.new-lent.ensures c.hold_lent.ensures.refused
