use Rattle.std.proofs.Common.{below_more, arith, []}
use Rattle.std.proofs.lemmas.Grind.{common_steps}
use Rattle.std.proofs.lemmas.Bool.Decides.{nat_tests}
use Rattle.dy_ring.proofs.Pairs.{at_map}
use Rattle.dy_ring.proofs.givens.first_without.Goals as goal

-- the list at the number was looked at, and isn't empty
pub loop-number-preserved : goal.loop-number-preserved
loop-number-preserved c =
    let e = at_map (λ list. list.items) c.args.lists.now c.loop-number.number c.index-lists-number.result [] c.loop-number-test.true c.index-lists-number.is in
    below_more _ _ c.loop-number.invariant (rw e (grind (arith, common_steps, nat_tests)))
