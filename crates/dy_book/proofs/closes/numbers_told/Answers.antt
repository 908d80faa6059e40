use Rattle.std.proofs.Common.{◌∷◌, [], ◌++◌, ◌+◌, List, ◌∙◌, sym, ap, subst, take}
use Rattle.std.proofs.lemmas.List.{take_more, take_all}
use Rattle.dy_shares.specs.Shares.{SessionPart}
use Rattle.dy_shares.specs.declared.step_numbers.StepNumbers.{StepNumbers}
use Rattle.dy_book.specs.Audits.{AreTold}
use Rattle.dy_book.proofs.Ending.{told_more}
use Rattle.dy_book.proofs.closes.numbers_told.Goals as goal

pub loop-session-preserved : goal.loop-session-preserved
loop-session-preserved g c =
    let ss = c.args.sessions.now in
    let i = c.loop-session.session-index in
    let s = c.session-item.result in
    let n = c.in_ok-numbers.numbers in
    let of = c.numbers.ensures in
    subst (λ (ns : List StepNumbers). AreTold ns (take (i + 1) ss)) (sym c.in_ok-push.ensures.items)
    (subst (AreTold (c.loop-session.told.items ++ n ∷ []))
    (sym (take_more ss i s c.loop-session-test.true ∙ ap (λ (x : SessionPart). take i ss ++ x ∷ []) (sym c.session-item.is)))
    (told_more c.loop-session.told.items (take i ss) n s c.loop-session.invariant
    (record {
      acks_are = c.in_ok-numbers.ensures.acks ∙ of.acks_are;
      fetches_are = c.in_ok-numbers.ensures.fetches ∙ of.fetches_are;
    })))

pub returns-clause-ok : goal.returns-clause-ok
returns-clause-ok g c =
    subst (AreTold c.loop-session.told.items)
    (take_all c.loop-session.session-index c.args.sessions.now c.loop-session-test.false)
    c.loop-session.invariant
