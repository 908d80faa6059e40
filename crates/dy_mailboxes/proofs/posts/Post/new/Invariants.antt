use Rattle.std.proofs.Common.{◌≡◌, ◌≤◌, vec_capacity, vec_len}
use Rattle.std.specs.List.{range_with_len}
use Rattle.dy_mailboxes.proofs.posts.Post.new.Given as goal

-- a mailbox for each node before, and its number, with room for the others
abbrev pub invariant-loop-node : goal.invariant-loop-node
invariant-loop-node g l =
    (vec_len l.boxes ≡ l.node) × (l.inboxes.items ≡ range_with_len 0 l.node)
    × (vec_len l.inboxes ≡ l.node) × (l.nodes ≤ vec_capacity l.boxes)
    × (l.nodes ≤ vec_capacity l.inboxes)
