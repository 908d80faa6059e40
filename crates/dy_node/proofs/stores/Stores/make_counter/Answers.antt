use Rattle.std.proofs.Common.{◌<◌, sym, arith}
use Rattle.dy_node_store.specs.Counters.{greatest_used}
use Rattle.dy_node.proofs.Kept.{used_stays}
use Rattle.dy_node.proofs.stores.Stores.make_counter.Goals as goal

-- a counter was used, so there is room
pub returns-then-next-gt1-clause-ok : goal.returns-then-next-gt1-clause-ok
returns-then-next-gt1-clause-ok c =
    let used : 0 < greatest_used c.args.self.now.counters c.args.key.now =
    omega (arith, c.requires, c.if-next-gt1.true) in
    λ i. record {
      rooms = c.args.self.now.rooms;
      counters = sym (used_stays c.args.self.now.counters c.args.key.now used) i;
    }
