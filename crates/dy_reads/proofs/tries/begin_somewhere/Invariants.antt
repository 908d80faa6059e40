use Rattle.std.proofs.Common.{◌≡◌, take}
use Rattle.dy_reads.specs.Tries.{downs, begin_try}
use Rattle.dy_reads.proofs.tries.begin_somewhere.Given as goal

abbrev pub invariant-loop-node : goal.invariant-loop-node
invariant-loop-node g l =
    let told = g.T.Transport.told l.transport in
    let start = g.T.Transport.told l.initial.transport in
    told ≡ record start {
      tries = downs (begin_try l.list l.key l.context l.value)
          (take l.node-index l.nodes);
    }
