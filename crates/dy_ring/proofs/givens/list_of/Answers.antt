use Rattle.std.proofs.Common.{arith}
use Rattle.std.proofs.lemmas.List.FromFn.{map-range_with_len_more}
use Rattle.dy_ring.specs.Lists.{derived_token}
use Rattle.dy_ring.proofs.givens.list_of.Goals as goal

-- one token more
pub loop-number-preserved : goal.loop-number-preserved
loop-number-preserved c =
    let e = map-range_with_len_more (derived_token c.args.node) 0 c.loop-number.number c.loop-number.number (omega arith) in
    let pushed = c.in_ok-push.ensures.items in
    let token = c.in_ok-token_of.ensures.ok in
    cc
