use Rattle.std.proofs.Common.{◌≡◌, ◌*◌, ◌≤◌, take}
use Rattle.dy_book.specs.Audits.{count_acks}
use Rattle.dy_book.proofs.closes.acks_told.Given as goal

abbrev pub invariant-loop-session : goal.invariant-loop-session
invariant-loop-session g l = record {
  sum : l.acks ≡ count_acks (take l.session-index l.sessions);
  bound : l.acks ≤ l.session-index * 18446744073709551616;
}
