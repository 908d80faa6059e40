use Rattle.std.proofs.Common.{sym, subst}
use Rattle.dy_quorum.specs.Tallies.{Counted, DoAgree, IsChoice, CanChoose}
use Rattle.dy_quorum.proofs.Choices.{agree_among, choice_taken}
use Rattle.dy_quorum.proofs.tallies.Tally.into_receipts.Goals as goal

-- the first receipts of w homes
pub returns-clause-choice : goal.returns-clause-choice
returns-clause-choice g c =
    let P : Counted → Type 0 = λ t. IsChoice t.w t.added c.truncate.new.self.items in
    let Q : Counted → Type 0 = λ t. CanChoose t.w t.added in
    subst P c.self.view_is (rw (c.truncate.ensures.items, c.first_of_each-first.ensures) (choice_taken _ _ _ c.self.invariant.1 (subst Q (sym c.self.view_is) c.requires)))

pub returns-clause-agree : goal.returns-clause-agree
returns-clause-agree g c =
    let P : Counted → Type 0 = λ t. DoAgree t.added in
    let chosen = returns-clause-choice g c in
    agree_among _ _ (subst P c.self.view_is c.self.invariant.5) chosen.among
