use Rattle.std.proofs.Common.{◌≡◌, ◌≤◌, ◌+◌, ◌++◌, List, ℕ, length, map}
use Rattle.std.specs.List.{All, Contains}
use Rattle.dy_quorum.specs.Gatherings.{first_answers}
use Rattle.dy_transport.specs.Snapshots.{snapshot_of}
use Rattle.dy_transport.specs.declared.asked.What.TheVariants.{Fetch}
use Rattle.dy_reads.specs.Rules.{HasRead, as_read}
use Rattle.dy_coord.specs.Gets.{StopsSoon, seens_of}
use Rattle.dy_coord.proofs.get_readings.read_rows.Given as goal

-- what was read so far, and what was made of it
abbrev pub invariant-reading : goal.invariant-reading
invariant-reading g l =
    let told = g.T.Transport.told l.transport in
    let start = g.T.Transport.told l.initial.transport in
    record {
      reading : HasRead (Fetch (snapshot_of l.key) l.since) start.asks l.initial.assign
          told.asks told.replies l.assign;
      room : told.room ≡ start.room;
      tries : told.tries ≡ start.tries;
      seens : l.gathering.seens ≡ l.initial.gathering.seens ++ seens_of told.replies;
      count : length l.gathering.seens ≤ 1 + length told.replies;
      gathering_room : l.gathering.room ≡ l.initial.gathering.room;
      r : l.gathering.r ≡ l.initial.gathering.r;
      most : length (first_answers l.gathering.seens) ≤ l.initial.gathering.r;
      stops : StopsSoon l.initial.gathering.r l.initial.gathering.seens told.replies;
      for_homes : (homes : List ℕ) → All (λ a. Contains homes a.home) start.asks →
          All (λ s. Contains homes s.home) l.initial.gathering.seens →
          All (λ a. Contains homes a.home) told.asks
          × All (λ s. Contains homes s.home) l.gathering.seens;
      answers : l.answers.items ≡ l.initial.answers.items ++ map as_read told.replies;
      answers_len : length l.answers.items ≡ length l.initial.answers.items + length told.replies;
      answers_room : l.answers.capacity ≡ l.initial.answers.capacity;
    }
