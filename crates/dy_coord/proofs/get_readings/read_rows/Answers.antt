-- One answer more: what the loop keeps stays true, field by field, whether it has a row or not. The
-- loop ends with the gathering ready, or with nothing left to read.
use Rattle.std.proofs.Common.{rules, ◌<◌, length, arith}
use Rattle.std.proofs.lemmas.List.Elements.{All-push}
use Rattle.std.specs.List.{Contains}
use Rattle.std.proofs.Common.{◌∙◌, refl, ap}
use Rattle.dy_quorum.specs.Gatherings.{first_answers}
use Rattle.dy_transport.specs.Snapshots.{snapshot_of}
use Rattle.dy_transport.specs.Told.{reply}
use Rattle.dy_transport.specs.declared.asked.What.TheVariants.{Fetch}
use Rattle.dy_transport.specs.declared.replies.Reply.{Reply}
use Rattle.dy_reads.proofs.Readings.{reading_step, reading_count, listed_more}
use Rattle.dy_reads.proofs.Readings.{len_more}
use Rattle.dy_coord.proofs.Getting.{stops_after, seens_added, seens_kept, count_added, count_kept}
use Rattle.dy_coord.proofs.Getting.{most_added}
use Rattle.dy_coord.proofs.ForHomes.{asks_for, seen_for}
use Rattle.dy_coord.proofs.get_readings.read_rows.Goals as goal
use Rattle.dy_coord.proofs.get_readings.read_rows.Goals.{in-None, in-Some+then-is_ready}
use Rattle.dy_coord.proofs.get_readings.read_rows.Goals.{in-Some+else-is_ready+in_default}

pub read_next-requires-clause-room : goal.read_next-requires-clause-room
read_next-requires-clause-room g c =
    let told = g.T.Transport.told c.reading.transport in
    let start = g.T.Transport.told c.args.transport.now in
    let what = Fetch (snapshot_of c.args.key.now) c.args.since.now in
    let inv = c.reading.invariant in
    let n = reading_count what start.asks c.args.assign.now told.asks told.replies
    c.reading.assign inv.reading in
    let room = c.requires.room.asks in
    rw (inv.room, n) room

pub read_next-requires-clause-answers_room : goal.read_next-requires-clause-answers_room
read_next-requires-clause-answers_room g c =
    let told = g.T.Transport.told c.reading.transport in
    let start = g.T.Transport.told c.args.transport.now in
    let what = Fetch (snapshot_of c.args.key.now) c.args.since.now in
    let inv = c.reading.invariant in
    let n = reading_count what start.asks c.args.assign.now told.asks told.replies
    c.reading.assign inv.reading in
    let len = inv.answers_len in
    let cap = inv.answers_room in
    let room = c.requires.room.answers in
    λ within. omega arith

pub add-requires : goal.add-requires
add-requires g c =
    let told = g.T.Transport.told c.reading.transport in
    let start = g.T.Transport.told c.args.transport.now in
    let what = Fetch (snapshot_of c.args.key.now) c.args.since.now in
    let inv = c.reading.invariant in
    let n = reading_count what start.asks c.args.assign.now told.asks told.replies
    c.reading.assign inv.reading in
    let room = c.requires.room.pieces in
    let same = inv.gathering_room in
    let count = inv.count in
    let q = c.in-Some-read_next.ensures.some.1 in
    let within = q.within in
    omega arith

pub reading-preserved-in-Some-seen_of : goal.reading-preserved-in-Some-seen_of
reading-preserved-in-Some-seen_of g c =
    let told = g.T.Transport.told c.reading.transport in
    let new = g.T.Transport.told c.read_next.new.transport in
    let start = g.T.Transport.told c.args.transport.now in
    let what = Fetch (snapshot_of c.args.key.now) c.args.since.now in
    let inv = c.reading.invariant in
    let some = c.in-Some-read_next.ensures.some in
    let q = some.1 in
    let r : Reply g.row.J.Denot = reply some.0 c.in-Some-read_next.field-0-0.holder
    c.in-Some-read_next.field-0-0.home c.in-Some-read_next.answer in
    let lt : length (first_answers c.reading.gathering.seens) < c.reading.gathering.r =
    rw c.if-is_ready.false at c.is_ready.ensures in
    let below : length (first_answers c.reading.gathering.seens) < c.args.gathering.now.r =
    rw inv.r at lt in
    let now = ap (λ t. t.seens) c.add.ensures in
    record {
      reading = reading_step what start.asks c.args.assign.now told new c.reading.assign
          c.read_next.new.assign some.0 _ _ _ inv.reading q;
      room = q.room ∙ inv.room;
      tries = q.tries ∙ inv.tries;
      seens = seens_added _ _ _ told.replies new.replies r _ inv.seens
          c.in-Some-seen_of.ensures.some now q.replies;
      count = count_added _ _ told.replies new.replies r _ inv.count now q.replies;
      gathering_room = ap (λ t. t.room) c.add.ensures ∙ inv.gathering_room;
      r = ap (λ t. t.r) c.add.ensures ∙ inv.r;
      most = most_added _ _ _ _ below now;
      stops = stops_after _ _ _ told.replies new.replies r inv.seens below q.replies;
      for_homes = λ homes asks seens. (let was = inv.for_homes homes asks seens in (
        asks_for homes what told new _ _ _ _ _ _ was.0 q,
        rw now (All-push (λ s. Contains homes s.home) c.reading.gathering.seens _ was.1
            (seen_for homes told.asks _ _ _ _ _ c.args.key.now c.args.since.now
            inv.reading.whats was.0 q.answers c.in-Some-seen_of.ensures.some)),
      ));
      answers = listed_more _ _ _ told.replies new.replies r _
          c.in-Some-read_next.ensures.listed refl inv.answers q.replies;
      answers_len = len_more told.replies new.replies r _ _ _
          c.in-Some-read_next.ensures.count inv.answers_len q.replies;
      answers_room = c.read_next.ensures.capacity ∙ inv.answers_room;
    }

pub reading-preserved : goal.reading-preserved
reading-preserved g c =
    let told = g.T.Transport.told c.reading.transport in
    let new = g.T.Transport.told c.read_next.new.transport in
    let start = g.T.Transport.told c.args.transport.now in
    let what = Fetch (snapshot_of c.args.key.now) c.args.since.now in
    let inv = c.reading.invariant in
    let some = c.in-Some-read_next.ensures.some in
    let q = some.1 in
    let r : Reply g.row.J.Denot = reply some.0 c.in-Some-read_next.field-0-0.holder
    c.in-Some-read_next.field-0-0.home c.in-Some-read_next.answer in
    let lt : length (first_answers c.reading.gathering.seens) < c.reading.gathering.r =
    rw c.if-is_ready.false at c.is_ready.ensures in
    let below : length (first_answers c.reading.gathering.seens) < c.args.gathering.now.r =
    rw inv.r at lt in
    let none = c.in_default-seen_of.ensures.none in
    record {
      reading = reading_step what start.asks c.args.assign.now told new c.reading.assign
          c.read_next.new.assign some.0 _ _ _ inv.reading q;
      room = q.room ∙ inv.room;
      tries = q.tries ∙ inv.tries;
      seens = seens_kept _ _ told.replies new.replies r inv.seens none q.replies;
      count = count_kept _ told.replies new.replies r inv.count q.replies;
      gathering_room = inv.gathering_room;
      r = inv.r;
      most = inv.most;
      stops = stops_after _ _ _ told.replies new.replies r inv.seens below q.replies;
      for_homes = λ homes asks seens. (let was = inv.for_homes homes asks seens in
          (asks_for homes what told new _ _ _ _ _ _ was.0 q, was.1));
      answers = listed_more _ _ _ told.replies new.replies r _
          c.in-Some-read_next.ensures.listed refl inv.answers q.replies;
      answers_len = len_more told.replies new.replies r _ _ _
          c.in-Some-read_next.ensures.count inv.answers_len q.replies;
      answers_room = c.read_next.ensures.capacity ∙ inv.answers_room;
    }

pub returns-clause-reading : goal.returns-clause-reading
returns-clause-reading g c = elim c.match-next.branch [
  | in-None w ↦ absurd (search rules)
  | in-Some+then-is_ready w ↦ rw (w.transport-is, w.assign-is) c.reading.invariant.reading
  | in-Some+else-is_ready+in_default w ↦ (let none = w.in_default.ensures.none in
      rw (w.transport-is, w.assign-is, none.0, none.2) c.reading.invariant.reading)
]

pub returns-clause-out : goal.returns-clause-out
returns-clause-out g c = elim c.match-next.branch [
  | in-None w ↦ absurd (search rules)
  | in-Some+then-is_ready w ↦ (let ready = rw w.if-is_ready.true at w.is_ready.ensures in
      let same = c.reading.invariant.r in λ lt. absurd (omega arith))
  | in-Some+else-is_ready+in_default w ↦ (let none = w.in_default.ensures.none in
      rw w.transport-is (λ lt. (rw none.0 refl, none.1)))
]
