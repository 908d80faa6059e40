use Rattle.std.proofs.Common.{length, map, refl, sym, ap, ◌∙◌, arith, ◌<◌}
use Rattle.std.proofs.lemmas.List.{take_all}
use Rattle.dy_index.specs.inside.Held.{released}
use Rattle.dy_index.proofs.Releasing.{turn_done, turn_left}
use Rattle.dy_index.proofs.custodies.give_up.Goals as goal

pub loop-custody-init : goal.loop-custody-init
loop-custody-init c = record { done = refl; left = refl }

-- the custody at the index has given up
pub loop-custody-preserved : goal.loop-custody-preserved
loop-custody-preserved c =
    let l = c.loop-custody in
    let f = released c.args.holder c.args.home c.args.key.now c.args.dot in
    let lt : l.custody-index < length l.places = let same = l.auto.places in let test =
    c.loop-custody-test.true in omega (arith, same, test) in
    record {
      done = turn_done f l.places c.args.places.now l.custody-index c.custody-item.result
          c.give_up.new.self lt l.auto.places c.custody-item.is
          (c.give_up.ensures ∙ ap f (sym c.custody-item.is)) l.invariant.done l.invariant.left;
      left = turn_left l.places c.args.places.now l.custody-index c.give_up.new.self
          l.invariant.left;
    }

pub returns : goal.returns
returns c =
    let l = c.loop-custody in
    let f = released c.args.holder c.args.home c.args.key.now c.args.dot in
    let whole = take_all l.custody-index c.args.places.now c.loop-custody-test.false in
    let own = take_all l.custody-index l.places
    (let same = l.auto.places in let test = c.loop-custody-test.false in
    omega (arith, same, test)) in
    sym own ∙ (l.invariant.done ∙ ap (map f) whole)
