-- How a storm ends.
use Rattle.std.specs.Prelude.{◌≡◌, ℕ, ◌+◌, ◌*◌, ◌%◌, ◌^◌, List, length}
use Rattle.std.specs.List.{All}
use Rattle.dy_ring.specs.Rings.{Tokens}
use Rattle.dy_shares.specs.Shares.{SessionPart}
use Rattle.dy_book.specs.Audits.{count_acks, count_gets}
use Rattle.dy_node.specs.Nodes.{IsRestored}
use Rattle.dy_cluster.specs.Ends.{IsClosed}
use Rattle.dy_cluster.specs.Settings.{setting}
use Rattle.dy_clients.specs.Tellings.{AreTold, as_fact}
use Rattle.dy_storm.specs.Clusters.{storm_options}
use Rattle.dy_storm.specs.Seeds.{generator_of}
use Rattle.dy_storm.specs.Turns.{AreTurns}
use Rattle.dy_storm.specs.declared.counts.Counts.{Counts}
use Rattle.dy_plans.specs.declared.storms.Storm.{Storm}
use Rattle.dy_storm.specs.declared.storms.StormDone.{StormDone}

-- the counts are of what the sessions were told
abbrev pub CountsTold : Counts → List SessionPart → Type 0
CountsTold counts tellings =
    (counts.acked ≡ count_acks tellings) × (counts.gets ≡ count_gets tellings)

-- each turn of each client counts for a get and for a put
abbrev pub CountsAll : ℕ → ℕ → Counts → Type 0
CountsAll clients turns counts =
    counts.acked + counts.gets + counts.refused ≡ 2 * clients * turns

-- a cluster of the ring and the storm's options was closed with the session of each client, which
-- made all its turns; each node was up and plain at the end; the counts are of what these sessions
-- were told, and of each turn
pub record IsStormed (book : Type 0) (ring : Tokens) (n r : ℕ) (plan : Storm) (done : StormDone)
    : Type 0 where
  pub tellings : List SessionPart
  pub closed : IsClosed ring n r tellings done.closed
  pub options : done.closed.options ≡ storm_options
  pub restored : All IsRestored done.closed.rests.items
  pub sessions : length tellings ≡ plan.threads
  pub turns : AreTold (as_fact (λ number telling. AreTurns (setting book ring n r storm_options)
      (generator_of ((plan.seed + number) % 2 ^ 64)) number plan.puts telling)) tellings
  pub told : CountsTold done.counts tellings
  pub all : CountsAll plan.threads plan.puts done.counts
