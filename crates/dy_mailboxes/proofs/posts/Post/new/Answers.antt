use Rattle.std.proofs.Common.{arith, ap, length, ◌∙◌}
use Rattle.std.proofs.lemmas.List.FromFn.{length-range_with_len}
use Rattle.dy_mailboxes.proofs.Counted.{one_more}
use Rattle.dy_mailboxes.proofs.posts.Post.new.Goals as goal

-- one mailbox more, of the next number
pub loop-node-preserved : goal.loop-node-preserved
loop-node-preserved g c = (
  omega (arith, c.loop-node.invariant.0, c.push_reserved.ensures.len),
  (let more = one_more c.loop-node.node in
      let before = c.loop-node.invariant.1 in
      let pushed = c.push_reserved-in-loop-node.ensures.items in
      cc),
  omega (arith, c.loop-node.invariant.2, c.push_reserved-in-loop-node.ensures.len),
  omega (arith, c.loop-node.invariant.3, c.push_reserved.ensures.capacity),
  omega (arith, c.loop-node.invariant.4, c.push_reserved-in-loop-node.ensures.capacity),
)

-- as many as numbers
pub returns-clause-inboxes : goal.returns-clause-inboxes
returns-clause-inboxes g c =
    ap length c.loop-node.invariant.1
    ∙ length-range_with_len 0 c.loop-node.node
    ∙ omega arith
