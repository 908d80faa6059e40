use Rattle.std.proofs.Common.{◌≡◌, take, min}
use Rattle.dy_reads.specs.Rules.{IsReadOut}
use Rattle.dy_handoff.specs.Passes.{HandsOverInTurn}
use Rattle.dy_handoff.specs.inside.Settling.{IsUnderWay, Settles}
use Rattle.dy_handoff.proofs.passes.hand_over_all.Given as goal

abbrev pub invariant-loop-i : goal.invariant-loop-i
invariant-loop-i g l =
    let told = g.T.Transport.told l.transport in
    let start = g.T.Transport.told l.initial.transport in
    record {
      way : IsUnderWay told l.done;
      turns : HandsOverInTurn l.node (take start.room (take l.i l.hints)) start told;
      settles : Settles l.node start told 0 l.done.released;
      offers : l.done.offers ≡ min l.i start.room;
      room : told.room ≡ start.room;
      out : IsReadOut told;
    }
