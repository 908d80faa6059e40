-- A put reads on: each receipt that comes fits those there, and what the loop keeps is kept field
-- by field, by one lemma a field.
use Rattle.std.proofs.Common.{rules, ◌≡◌, ◌++◌, ◌∷◌, ℕ, List, length, nat_eq, arith, sym, ◌∙◌, refl}
use Rattle.std.proofs.Common.{ap, subst}
use Rattle.std.specs.List.{IsDistinct}
use Rattle.dy_shares.specs.Shares.{ReceiptParts, receipt_parts}
use Rattle.dy_transport.specs.Snapshots.{snapshot_of}
use Rattle.dy_transport.specs.Told.{reply}
use Rattle.dy_transport.specs.declared.asked.What.TheVariants.{Store}
use Rattle.dy_transport.specs.declared.replies.Reply.{Reply}
use Rattle.dy_reads.specs.Rules.{nodes_asked}
use Rattle.dy_reads.proofs.Readings.{reading_step, reading_count, listed_more, len_more}
use Rattle.dy_quorum.specs.Tallies.{FitsAll}
use Rattle.dy_coord.specs.Puts.{receipts_read}
use Rattle.dy_coord.proofs.Holders.{fits_reply, took_some, took_none, added_more, added_same}
use Rattle.dy_coord.proofs.Holders.{count_more, count_same}
use Rattle.dy_coord.proofs.put_reads.read_put.Goals as goal
use Rattle.dy_coord.proofs.put_reads.read_put.Goals.{in-None, in-Some+in_default}

pub read_next-requires-clause-room : goal.read_next-requires-clause-room
read_next-requires-clause-room g c =
    let told = g.T.Transport.told c.reading.transport in
    let start = g.T.Transport.told c.args.transport.now in
    let inv = c.reading.invariant in
    let n = reading_count (Store (snapshot_of c.args.row.now)) start.asks c.args.assign.now
    told.asks
    told.replies c.reading.assign inv.reading in
    let room = c.requires.room.asks in
    rw (inv.room, n) room

pub read_next-requires-clause-answers_room : goal.read_next-requires-clause-answers_room
read_next-requires-clause-answers_room g c =
    let told = g.T.Transport.told c.reading.transport in
    let start = g.T.Transport.told c.args.transport.now in
    let inv = c.reading.invariant in
    let n = reading_count (Store (snapshot_of c.args.row.now)) start.asks c.args.assign.now
    told.asks
    told.replies c.reading.assign inv.reading in
    let len = inv.answers_len in
    let cap = inv.answers_room in
    let room = c.requires.room.answers in
    λ within. omega arith

pub add-requires-clause-room : goal.add-requires-clause-room
add-requires-clause-room g c =
    let told = g.T.Transport.told c.reading.transport in
    let start = g.T.Transport.told c.args.transport.now in
    let inv = c.reading.invariant in
    let n = reading_count (Store (snapshot_of c.args.row.now)) start.asks c.args.assign.now
    told.asks
    told.replies c.reading.assign inv.reading in
    let room = c.requires.room.pieces in
    let same = inv.tally_room in
    let count = inv.count in
    let one : length c.args.tally.now.added ≡ 1 = ap length c.requires.own.added_are in
    let q = c.in-Some-read_next.ensures.some.1 in
    let within = q.within in
    omega arith

pub add-requires-clause-fits : goal.add-requires-clause-fits
add-requires-clause-fits g c =
    let told = g.T.Transport.told c.reading.transport in
    let row = c.args.row.now in
    let inv = c.reading.invariant in
    let i = inv.reading in
    let some = c.in-Some-read_next.ensures.some in
    let q = some.1 in
    let took = took_some told.asks row c.args.dot some.0 _ _ _ _ _ i.whats c.requires.one_key
    c.requires.dot q.answers c.receipt_in.ensures c.in-Some-receipt_in.is in
    let own = c.requires.own in
    let came = receipts_read row.key c.args.dot told.replies in
    let P : List ℕ → Type 0 = λ ns. IsDistinct nat_eq (own.holder ∷ ns) in
    let apart : IsDistinct nat_eq (own.holder ∷ nodes_asked told.asks ++ c.reading.assign) =
    subst P (sym i.whom) own.apart in
    let Q : List ReceiptParts → Type 0 = λ xs. FitsAll xs c.in-Some-receipt_in.receipt in
    let R : ReceiptParts → Type 0 = λ x. FitsAll (receipt_parts row.key c.args.dot own.holder
    own.home ∷ came) x in
    let added = inv.added ∙ ap (λ (xs : List ReceiptParts). xs ++ came) own.added_are in
    subst Q (sym added) (subst R (sym took.0) (fits_reply row.key c.args.dot own.home own.holder
    told.asks c.reading.assign told.replies some.0 _ _ _ apart i.known q.answers))

pub reading-preserved-in-Some-receipt_in : goal.reading-preserved-in-Some-receipt_in
reading-preserved-in-Some-receipt_in g c =
    let told = g.T.Transport.told c.reading.transport in
    let new = g.T.Transport.told c.read_next.new.transport in
    let start = g.T.Transport.told c.args.transport.now in
    let row = c.args.row.now in
    let inv = c.reading.invariant in
    let i = inv.reading in
    let some = c.in-Some-read_next.ensures.some in
    let q = some.1 in
    let r : Reply g.row.J.Denot = reply some.0 c.in-Some-read_next.field-0-0.holder
    c.in-Some-read_next.field-0-0.home c.in-Some-read_next.answer in
    let took = took_some told.asks row c.args.dot some.0 _ _ _ _ _ i.whats c.requires.one_key
    c.requires.dot q.answers c.receipt_in.ensures c.in-Some-receipt_in.is in
    let now = ap (λ t. t.added) c.add.ensures.value in
    record {
      reading = reading_step (Store (snapshot_of row)) start.asks c.args.assign.now told new
          c.reading.assign c.read_next.new.assign some.0 _ _ _ i q;
      may_ask = c.read_next.ensures.may_ask;
      room = q.room ∙ inv.room;
      tries = q.tries ∙ inv.tries;
      added = added_more row.key c.args.dot told.replies new.replies r _ _ _ _ inv.added took.1 now
          q.replies;
      agree = c.add.ensures.agree;
      count = count_more _ told.replies new.replies r _ _ _ inv.count now q.replies;
      w = ap (λ t. t.w) c.add.ensures.value ∙ inv.w;
      tally_room = ap (λ t. t.room) c.add.ensures.value ∙ inv.tally_room;
      answers = listed_more _ _ _ told.replies new.replies r _ c.in-Some-read_next.ensures.listed
          refl inv.answers q.replies;
      answers_len = len_more told.replies new.replies r _ _ _ c.in-Some-read_next.ensures.count
          inv.answers_len q.replies;
      answers_room = c.read_next.ensures.capacity ∙ inv.answers_room;
    }

pub reading-preserved : goal.reading-preserved
reading-preserved g c =
    let told = g.T.Transport.told c.reading.transport in
    let new = g.T.Transport.told c.read_next.new.transport in
    let start = g.T.Transport.told c.args.transport.now in
    let row = c.args.row.now in
    let inv = c.reading.invariant in
    let i = inv.reading in
    let some = c.in-Some-read_next.ensures.some in
    let q = some.1 in
    let r : Reply g.row.J.Denot = reply some.0 c.in-Some-read_next.field-0-0.holder
    c.in-Some-read_next.field-0-0.home c.in-Some-read_next.answer in
    let none = took_none told.asks row c.args.dot some.0 _ _ _ _ i.whats c.requires.one_key
    c.requires.dot q.answers c.receipt_in.ensures c.in_default-receipt_in.not-Some in
    record {
      reading = reading_step (Store (snapshot_of row)) start.asks c.args.assign.now told new
          c.reading.assign c.read_next.new.assign some.0 _ _ _ i q;
      may_ask = c.read_next.ensures.may_ask;
      room = q.room ∙ inv.room;
      tries = q.tries ∙ inv.tries;
      added = added_same row.key c.args.dot told.replies new.replies r _ _ inv.added none q.replies;
      agree = inv.agree;
      count = count_same _ told.replies new.replies r _ inv.count q.replies;
      w = inv.w;
      tally_room = inv.tally_room;
      answers = listed_more _ _ _ told.replies new.replies r _ c.in-Some-read_next.ensures.listed
          refl inv.answers q.replies;
      answers_len = len_more told.replies new.replies r _ _ _ c.in-Some-read_next.ensures.count
          inv.answers_len q.replies;
      answers_room = c.read_next.ensures.capacity ∙ inv.answers_room;
    }

pub returns-clause-reading : goal.returns-clause-reading
returns-clause-reading g c = elim c.match-next.branch [
  | in-None w ↦ absurd (search rules)
  | in-Some+in_default w ↦ (let none = w.in_default.ensures.none in rw (
    w.transport-is,
    w.assign-is,
    none.0,
    none.2,
  ) c.reading.invariant.reading)
]

pub returns-clause-out : goal.returns-clause-out
returns-clause-out g c = elim c.match-next.branch [
  | in-None w ↦ absurd (search rules)
  | in-Some+in_default w ↦ (let none = w.in_default.ensures.none in rw w.transport-is
      (rw none.0 refl, none.1))
]
