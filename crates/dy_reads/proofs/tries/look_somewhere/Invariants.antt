use Rattle.std.proofs.Common.{◌≡◌, take}
use Rattle.dy_reads.specs.Tries.{downs, look_try}
use Rattle.dy_reads.proofs.tries.look_somewhere.Given as goal

abbrev pub invariant-loop-node : goal.invariant-loop-node
invariant-loop-node g l =
    let told = g.T.Transport.told l.transport in
    let start = g.T.Transport.told l.initial.transport in
    told ≡ record start {
      tries = downs (look_try l.list l.key l.since) (take l.node-index l.nodes);
    }
