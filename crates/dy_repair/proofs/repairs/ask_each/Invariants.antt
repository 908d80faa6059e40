use Rattle.std.proofs.Common.{◌≡◌, [], take, length}
use Rattle.dy_repair.specs.Repairs.{store_asks}
use Rattle.dy_repair.proofs.repairs.ask_each.Given as goal

abbrev pub invariant-loop-i : goal.invariant-loop-i
invariant-loop-i g l =
    let told = g.T.Transport.told l.transport in
    let start = g.T.Transport.told l.initial.transport in
    record {
      asks : told.asks ≡ store_asks l.row (take l.i l.homes);
      count : length told.asks ≡ l.i;
      replies : told.replies ≡ [];
      tries : told.tries ≡ start.tries;
      room : told.room ≡ start.room;
    }
