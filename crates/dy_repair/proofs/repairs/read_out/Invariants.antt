use Rattle.std.proofs.Common.{◌≡◌}
use Rattle.dy_repair.proofs.repairs.read_out.Given as goal

abbrev pub invariant-reading : goal.invariant-reading
invariant-reading g l =
    let told = g.T.Transport.told l.transport in
    let start = g.T.Transport.told l.initial.transport in
    record {
      asks : told.asks ≡ start.asks;
      tries : told.tries ≡ start.tries;
      room : told.room ≡ start.room;
    }
