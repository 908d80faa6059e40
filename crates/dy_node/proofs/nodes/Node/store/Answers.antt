-- The row is lent, and all is as of what is lent.
use Rattle.std.proofs.Common.{◌≡◌, ◌∷◌, [], IsTrue, sym, subst}
use Rattle.std.specs.Result.{IfOk, OnOk, result_err}
use Rattle.dy_siblings.specs.Siblings.{Siblings}
use Rattle.dy_preference.specs.Preferences.{homes_of, may_hold}
use Rattle.dy_core.specs.Steps.{place_for}
use Rattle.dy_core.specs.declared.steps.Step.TheVariants.{Hold}
use Rattle.dy_shares.specs.Shares.{with_steps}
use Rattle.dy_book.specs.Books.{receipts_of, with_untold}
use Rattle.dy_node.specs.Refusals.{StoreRefused}
use Rattle.dy_node.proofs.nodes.Node.store.Goals as goal

pub store_lent-requires : goal.store_lent-requires
store_lent-requires g c =
    record {
      may_hold = subst (λ (r : Siblings). IsTrue
          (may_hold (homes_of g.J.Naming.ring g.J.Naming.n r.key) c.args.self.now.part.node c.args.home))
          (sym c.new-lent.ensures) c.requires.may_hold;
    }

pub returns-clause-log : goal.returns-clause-log
returns-clause-log g c =
    subst (λ (r : Siblings). OnOk c.store_lent.result (c.store_lent.new.book
    ≡ with_untold c.args.book.now (Hold (place_for c.args.self.now.part.node c.args.home) r ∷ [])))
    c.new-lent.ensures c.store_lent.ensures.log

pub returns-clause-share : goal.returns-clause-share
returns-clause-share g c =
    subst (λ (r : Siblings). OnOk c.store_lent.result (c.store_lent.new.self.part
    ≡ with_steps c.args.self.now.part
    (Hold (place_for c.args.self.now.part.node c.args.home) r ∷ [])))
    c.new-lent.ensures c.store_lent.ensures.share

pub returns-clause-receipts : goal.returns-clause-receipts
returns-clause-receipts g c =
    subst (λ (r : Siblings). IfOk c.store_lent.result (λ receipts. receipts.items
    ≡ receipts_of r.versions c.args.self.now.part.node c.args.home))
    c.new-lent.ensures c.store_lent.ensures.receipts

pub returns-clause-refused : goal.returns-clause-refused
returns-clause-refused g c =
    subst (λ (r : Siblings). StoreRefused c.args.book.now c.args.self.now r
    (result_err c.store_lent.result))
    c.new-lent.ensures c.store_lent.ensures.refused
