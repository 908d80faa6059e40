use Rattle.std.proofs.Common.{◌≡◌}
use Rattle.dy_handoff.specs.inside.Settling.{IsUnderWay, Settles}
use Rattle.dy_handoff.proofs.passes.settle_all.Given as goal

abbrev pub invariant-reading : goal.invariant-reading
invariant-reading g l =
    let told = g.T.Transport.told l.transport in
    let start = g.T.Transport.told l.initial.transport in
    record {
      way : IsUnderWay told (record { offers = l.done.offers; stored = l.stored; released = l.released });
      settles : Settles l.node start told l.done.released l.released;
      asks : told.asks ≡ start.asks;
      room : told.room ≡ start.room;
    }
