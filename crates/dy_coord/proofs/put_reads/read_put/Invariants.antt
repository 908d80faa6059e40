use Rattle.std.proofs.Common.{◌≡◌, ◌≤◌, ◌+◌, ◌++◌, length, map}
use Rattle.dy_transport.specs.Snapshots.{snapshot_of}
use Rattle.dy_transport.specs.declared.asked.What.TheVariants.{Store}
use Rattle.dy_quorum.specs.Tallies.{DoAgree}
use Rattle.dy_reads.specs.Rules.{HasRead, MayStandIn, as_read}
use Rattle.dy_coord.specs.Puts.{receipts_read}
use Rattle.dy_coord.proofs.put_reads.read_put.Given as goal

abbrev pub invariant-reading : goal.invariant-reading
invariant-reading g l =
    let told = g.T.Transport.told l.transport in
    let start = g.T.Transport.told l.initial.transport in
    record {
      reading : HasRead (Store (snapshot_of l.row)) start.asks l.initial.assign told.asks
          told.replies
          l.assign;
      may_ask : MayStandIn g.J.Naming.ring g.J.Naming.n l.request told.asks l.assign;
      room : told.room ≡ start.room;
      tries : told.tries ≡ start.tries;
      added : l.tally.added ≡ l.initial.tally.added
          ++ receipts_read l.row.key l.dot told.replies;
      agree : DoAgree l.tally.added;
      count : length l.tally.added ≤ length l.initial.tally.added + length told.replies;
      w : l.tally.w ≡ l.initial.tally.w;
      tally_room : l.tally.room ≡ l.initial.tally.room;
      answers : l.answers.items ≡ l.initial.answers.items ++ map as_read told.replies;
      answers_len : length l.answers.items ≡ length l.initial.answers.items + length told.replies;
      answers_room : l.answers.capacity ≡ l.initial.answers.capacity;
    }
