use Rattle.std.proofs.Common.{◌≡◌, ◌∙◌, ◌≤◌, ◌<◌, [], ap, sym, subst, take, drop, length, arith}
use Rattle.std.specs.List.{All}
use Rattle.dy_ring.specs.Rings.{position_of, node_distance}
use Rattle.dy_preference.specs.Preferences.{IsByDistance}
use Rattle.dy_preference.specs.inside.Walks.{met}
use Rattle.dy_preference.proofs.Distances.{by_distance, walk_is}
use Rattle.dy_preference.proofs.Rising.{length_nodes}
use Rattle.dy_preference.proofs.Stopping.{met_whole}
use Rattle.dy_preference.proofs.orders.in_order.Goals as goal

-- the list that was met is the definition's, which has as many nodes as the walk stops at
pub returns-clause-nodes : goal.returns-clause-nodes
returns-clause-nodes c =
    let ring = c.args.ring.now in
    let p = position_of c.args.key.now in
    let i = c.first_after-first.result in
    let n = c.nodes-count.result in
    let passed : All (λ t. t.0 ≤ p) (take i ring.tokens) = subst (λ q. All (λ t. t.0 ≤ q) (take i ring.tokens)) c.position.ensures.value c.first_after-first.ensures.passed in
    let ahead : All (λ t. p < t.0) (drop i ring.tokens) = subst (λ q. All (λ t. q < t.0) (drop i ring.tokens)) c.position.ensures.value c.first_after-first.ensures.ahead in
    let after : c.split_at.result.1.now ≡ drop i ring.tokens = c.split_at.ensures.back ∙ ap (drop i) c.tokens.ensures.value in
    let before : c.split_at.result.0.now ≡ take i ring.tokens = c.split_at.ensures.front ∙ ap (take i) c.tokens.ensures.value in
    let first : c.meet.new.nodes.items ≡ take n (met [] (drop i ring.tokens)) =
    c.meet.ensures ∙ ap (λ l. take n (met l c.split_at.result.1.now)) c.new-nodes.ensures ∙ ap (λ l. take n (met [] l)) after in
    let walked = walk_is ring p i c.tokens.ensures.valid c.position.ensures.small passed ahead in
    c.meet-2.ensures
    ∙ ap (λ l. take n (met l c.split_at.result.0.now)) first
    ∙ ap (λ l. take n (met (take n (met [] (drop i ring.tokens))) l)) before
    ∙ met_whole n (drop i ring.tokens) (take i ring.tokens) (ap length walked ∙ length_nodes (node_distance ring p) ring.nodes ∙ sym c.nodes-count.ensures.value)
    ∙ walked

pub returns-clause-order : goal.returns-clause-order
returns-clause-order c =
    subst (IsByDistance c.args.ring.now (position_of c.args.key.now)) (sym (returns-clause-nodes c))
    (by_distance c.args.ring.now (position_of c.args.key.now) c.tokens.ensures.valid c.position.ensures.small)

-- there are as many as the ring has
pub returns-clause-few : goal.returns-clause-few
returns-clause-few c = omega (arith, c.nodes-count.ensures.valid.few, (returns-clause-order c).count)
