-- Each node so far was down; the one that is tried now ends it, or is down too.
use Rattle.std.proofs.Common.{◌≡◌, ℕ, List, Result, Ok, Err, take, arith, rules, sym, ap, refl}
use Rattle.dy_dots.specs.declared.faults.Fault.{Fault}
use Rattle.dy_core.specs.Logs.{Answer as SeenParts}
use Rattle.dy_transport.specs.declared.tries.Try.{Try}
use Rattle.dy_reads.specs.Tries.{look_try, downs}
use Rattle.dy_reads.proofs.Tried.{downs_more, tries_at}
use Rattle.dy_reads.proofs.tries.look_somewhere.Goals as goal

pub returns-in-Ok-clause-tries : goal.returns-in-Ok-clause-tries
returns-in-Ok-clause-tries g c =
    let list = c.args.list.now in
    let tried : ℕ → Result SeenParts Fault → Try g.row.J.Denot =
    look_try list c.args.key.now c.args.since.now in
    let before : (g.T.Transport.told c.loop-node.transport).tries
    ≡ downs tried (take c.loop-node.node-index c.nodes-nodes.result.now) =
    rw c.loop-node.invariant refl in
    tries_at tried list.nodes c.nodes-nodes.result.now _ c.loop-node.node-index c.node-item.result
    (Ok c.in-Ok.seen) c.nodes-nodes.ensures.value (omega arith) c.node-item.is
    (rw (c.in-Ok.ensures.told, before, c.home_for.ensures.value) refl)

pub returns-in-Ok-clause-seen : goal.returns-in-Ok-clause-seen
returns-in-Ok-clause-seen g c = rw (← c.home_for.ensures.value) c.in-Ok.ensures.seen

pub returns-in-Err-clause-tries : goal.returns-in-Err-clause-tries
returns-in-Err-clause-tries g c =
    let list = c.args.list.now in
    let tried : ℕ → Result SeenParts Fault → Try g.row.J.Denot =
    look_try list c.args.key.now c.args.since.now in
    let before : (g.T.Transport.told c.loop-node.transport).tries
    ≡ downs tried (take c.loop-node.node-index c.nodes-nodes.result.now) =
    rw c.loop-node.invariant refl in (
      (
        c.node-item.result,
        tries_at tried list.nodes c.nodes-nodes.result.now _ c.loop-node.node-index c.node-item.result
            (Err c.in-Err.fault) c.nodes-nodes.ensures.value (omega arith) c.node-item.is
            (rw (c.in-Err.ensures.told, before, c.home_for.ensures.value) refl),
      ),
      (search rules),
      c.in-Err.ensures.refused,
    )

pub loop-node-preserved : goal.loop-node-preserved
loop-node-preserved g c =
    let list = c.args.list.now in
    let start = g.T.Transport.told c.args.transport.now in
    let tried : ℕ → Result SeenParts Fault → Try g.row.J.Denot =
    look_try list c.args.key.now c.args.since.now in
    rw (
      c.look.ensures.told,
      c.in-Err-Down.is,
      c.in-Err-Down.field-0-is,
      c.loop-node.invariant,
      c.home_for.ensures.value,
    )
    (ap (λ (ts : List (Try g.row.J.Denot)). record start { tries = ts })
    (sym (downs_more tried c.nodes-nodes.result.now c.loop-node.node-index c.node-item.result
    (omega arith) c.node-item.is)))
