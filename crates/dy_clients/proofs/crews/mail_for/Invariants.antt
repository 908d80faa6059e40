use Rattle.std.proofs.Common.{◌≡◌, length}
use Rattle.dy_clients.proofs.crews.mail_for.Given as goal

-- as many posts are made as rounds were
abbrev pub invariant-loop : goal.invariant-loop
invariant-loop g l = length l.posts.items ≡ l.counter
