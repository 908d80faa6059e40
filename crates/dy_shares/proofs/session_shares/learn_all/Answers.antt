use Rattle.std.proofs.Common.{◌≡◌, max, arith, rules}
use Rattle.dy_shares.proofs.Fronts.{prefix_length}
use Rattle.dy_shares.proofs.Sessions.{learnt_each, learnt_since, prefix_on}
use Rattle.dy_shares.proofs.session_shares.learn_all.Goals as goal

-- the front takes in that of the answer
pub loop-seen-preserved : goal.loop-seen-preserved
loop-seen-preserved g c =
    let l = c.loop-seen in
    let i = l.invariant in
    let a = c.seen-item.result in
    let seens = c.args.seens.now in
    let after = c.join.new.self in
    let latest : c.max-latest.result ≡ max l.latest a.at = search rules in
    let within = c.loop-seen-test.true in (
      prefix_on c.args.front.now l.front after i.0 c.join.ensures.own,
      learnt_each l.front c.front.result.now after seens l.seen-index a c.join.ensures.own c.join.ensures.other i.1 c.front.ensures.is within c.seen-item.is,
      learnt_since seens l.seen-index c.args.since l.latest c.max-latest.result a within c.seen-item.is i.2 latest,
      omega (arith, latest, c.at.ensures, i.3, c.front.ensures.reached, prefix_length l.front after c.join.ensures.own, prefix_length c.front.result.now after c.join.ensures.other),
    )
