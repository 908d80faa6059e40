use Rattle.std.proofs.Common.{◌≡◌}
use Rattle.dy_mailboxes.proofs.transports.next_of.Given as goal

-- nothing is told while nothing is handed on
abbrev pub invariant-waiting : goal.invariant-waiting
invariant-waiting g l = (l.sheet ≡ l.initial.sheet) × (l.replies ≡ l.initial.replies)
