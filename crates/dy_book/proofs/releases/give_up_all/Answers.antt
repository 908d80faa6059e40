use Rattle.std.proofs.Common.{take, sym, subst}
use Rattle.std.proofs.lemmas.List.{take_more, take_all}
use Rattle.dy_dots.specs.declared.dots.Dot.{Dot}
use Rattle.dy_core.specs.Steps.{after_release}
use Rattle.dy_core.specs.Logs.{world_from}
use Rattle.dy_book.specs.Books.{release_steps}
use Rattle.dy_index.specs.Indexes.{IsIndex}
use Rattle.dy_book.proofs.Releasing.{steps_more, world_more}
use Rattle.dy_book.proofs.releases.give_up_all.Goals as goal

-- the world after one release more
pub loop-receipt-preserved : goal.loop-receipt-preserved
loop-receipt-preserved g c = λ w index.
    let rs = c.args.receipts.now in
    let i = c.loop-receipt.receipt-index in
    let r = c.receipt-item.result in
    let more = steps_more c.args.holder rs i r (sym c.receipt-item.is)
    (take_more rs i r c.loop-receipt-test.true) in
    let before = world_from w (release_steps c.args.holder (take i rs)) in
    let given : IsIndex (after_release before c.args.holder r.home r.key r.dot)
    c.give_up.new.keys.entries =
    subst (λ n. IsIndex (after_release before c.args.holder n r.key r.dot)
    c.give_up.new.keys.entries) c.home.ensures
    (subst (λ k. IsIndex (after_release before c.args.holder c.home.result k r.dot)
    c.give_up.new.keys.entries) c.key.ensures
    (subst (λ (d : Dot). IsIndex
    (after_release before c.args.holder c.home.result c.key.result.now d)
    c.give_up.new.keys.entries) c.dot.ensures
    (c.give_up.ensures before (c.loop-receipt.invariant w index)))) in
    subst (λ x. IsIndex x c.give_up.new.keys.entries) (sym (world_more c.args.holder rs i r more w))
    given

pub returns : goal.returns
returns g c = λ w index.
    subst (λ rs. IsIndex
    (world_from w (release_steps c.args.holder rs)) c.loop-receipt.keys.entries)
    (take_all c.loop-receipt.receipt-index c.args.receipts.now c.loop-receipt-test.false)
    (c.loop-receipt.invariant w index)
