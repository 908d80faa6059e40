use Rattle.std.proofs.Common.{◌≡◌, vec_len}
use Rattle.dy_mailboxes.proofs.posts.Post.try_clone.Given as goal

-- an end for each mailbox before
abbrev pub invariant-loop-outbox : goal.invariant-loop-outbox
invariant-loop-outbox g l = vec_len l.boxes ≡ l.outbox-index
