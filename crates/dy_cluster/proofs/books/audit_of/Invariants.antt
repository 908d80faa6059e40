use Rattle.std.proofs.Common.{◌≡◌, take}
use Rattle.std.specs.List.{All}
use Rattle.dy_shares.specs.Shares.{SessionBelongsTo}
use Rattle.dy_cluster.proofs.books.audit_of.Given as goal

-- book and sessions stay, and the sessions before this one belong to the log
abbrev pub invariant-loop-session : goal.invariant-loop-session
invariant-loop-session g l = record {
  book : l.book ≡ l.initial.book;
  same : l.sessions ≡ l.initial.sessions;
  belong : All (SessionBelongsTo l.initial.book.log g.J.Naming.r)
      (take l.session-index l.initial.sessions);
}
