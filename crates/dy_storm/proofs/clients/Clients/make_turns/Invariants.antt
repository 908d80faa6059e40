use Rattle.std.proofs.Common.{◌≡◌}
use Rattle.dy_cluster.specs.Settings.{setting}
use Rattle.dy_storm.specs.Turns.{AreTurns, after_draws}
use Rattle.dy_storm.proofs.clients.Clients.make_turns.Given as goal

-- as many keys were drawn and as many turns were made as rounds were, and the session was told of
-- these turns
abbrev pub invariant-loop : goal.invariant-loop
invariant-loop g l = record {
  drawn : l.generator ≡ after_draws l.initial.generator l.counter;
  client : l.player.client ≡ l.initial.player.client;
  turns : l.player.turns ≡ l.counter;
  told : AreTurns (setting g.row.J.Denot g.J.Naming.ring g.J.Naming.n g.J.Naming.r
      l.initial.connection.cluster.now.options) l.initial.generator l.initial.player.client
      l.counter l.connection.session;
}
