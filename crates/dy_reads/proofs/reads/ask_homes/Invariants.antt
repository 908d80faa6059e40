use Rattle.std.proofs.Common.{◌≡◌, ◌++◌, ◌≤◌, ◌+◌, [], take, length}
use Rattle.dy_reads.specs.Rules.{home_asks, requested}
use Rattle.dy_reads.proofs.reads.ask_homes.Given as goal

abbrev pub invariant-loop-i : goal.invariant-loop-i
invariant-loop-i g l =
    let told = g.T.Transport.told l.transport in
    let start = g.T.Transport.told l.initial.transport in
    record {
      asks : told.asks ≡ start.asks ++ home_asks (requested l.request) l.fn.held (take l.i l.homes);
      count : length told.asks ≤ length start.asks + l.i;
      replies : told.replies ≡ [];
      tries : told.tries ≡ start.tries;
      room : told.room ≡ start.room;
    }
