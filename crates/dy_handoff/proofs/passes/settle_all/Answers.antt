-- Answers are read on: what the loop keeps is kept field by field, by one lemma a field. With the
-- receipts that an answer brings there are no more settles than asks, so there is room for them.
use Rattle.std.proofs.Common.{rules, length, length-append, arith, ◌∙◌, refl, ap, ◌+◌}
use Rattle.dy_transport.specs.declared.replies.Reply.{Reply}
use Rattle.dy_transport.specs.Told.{reply}
use Rattle.dy_handoff.proofs.Settlings.{receipts_at_home, settles_start, settles_more, settles_none, stored_few, tries_within, way_stored, way_unstored}
use Rattle.dy_handoff.proofs.passes.settle_all.Goals as goal
use Rattle.dy_handoff.proofs.passes.settle_all.Goals.{in-None, in-Some+in_default}

-- what was done before is kept
pub reading-init : goal.reading-init
reading-init g c =
    let start = g.T.Transport.told c.args.transport.now in
    let way = c.requires.way in
    record {
      way = record {
        known = way.known;
        apart = way.apart;
        homes = way.homes;
        few = way.few;
        tries = way.tries;
        offers_are = way.offers_are;
        stored_are = way.stored_are;
      };
      settles = settles_start c.args.node c.args.done.released start;
      asks = refl;
      room = refl;
    }

pub settle_one-released-requires-clause-room : goal.settle_one-released-requires-clause-room
settle_one-released-requires-clause-room g c =
    let told = g.T.Transport.told c.reading.transport in
    let some = c.in-Some-next_reply.ensures.some in
    let within = tries_within told _ c.reading.invariant.way in
    rw some.1 (omega arith)

pub settle_one-released-requires-clause-homes : goal.settle_one-released-requires-clause-homes
settle_one-released-requires-clause-homes g c =
    let told = g.T.Transport.told c.reading.transport in
    let some = c.in-Some-next_reply.ensures.some in
    receipts_at_home told.asks some.0 _ _ c.in-Some-next_reply.answer c.in-Some-receipts_in.receipts c.reading.invariant.way.homes some.2 c.in-Some-receipts_in.ensures.some

pub reading-preserved-in-Some-receipts_in : goal.reading-preserved-in-Some-receipts_in
reading-preserved-in-Some-receipts_in g c =
    let told = g.T.Transport.told c.reading.transport in
    let start = g.T.Transport.told c.args.transport.now in
    let mid = g.T.Transport.told c.next_reply.new.self in
    let new = g.T.Transport.told c.settle_one-released.new.transport in
    let inv = c.reading.invariant in
    let some = c.in-Some-next_reply.ensures.some in
    let r : Reply g.row.J.Denot = reply some.0 c.in-Some-next_reply.field-0-0.holder c.in-Some-next_reply.field-0-0.home c.in-Some-next_reply.answer in
    let e = c.in-Some-receipts_in.ensures.some in
    let one = c.settle_one-released.ensures in
    let tries = ap (λ t. t.tries) some.1 in
    let replies = ap (λ t. t.replies) some.1 in
    let more = ap (λ t. t.replies) one.told_is ∙ replies in
    let now = ap (λ t. t.asks) one.told_is ∙ ap (λ t. t.asks) some.1 in
    let room = ap (λ t. t.room) one.told_is ∙ ap (λ t. t.room) some.1 in
    let count = ap (λ t. length t.tries) one.told_is ∙ (length-append mid.tries _ ∙ ap (λ ts. length ts + 1) tries) in
    record {
      way = way_stored told new c.args.done.offers c.reading.stored c.reading.released _ r _ inv.way some.2 some.3 e now more count room;
      settles = settles_more c.args.node c.args.done.released c.reading.released _ start told mid new r _ inv.settles e tries replies one;
      asks = now ∙ inv.asks;
      room = room ∙ inv.room;
    }

pub overflow_add-stored : goal.overflow_add-stored
overflow_add-stored g c =
    let told = g.T.Transport.told c.reading.transport in
    let new = g.T.Transport.told c.settle_one-released.new.transport in
    let mid = g.T.Transport.told c.next_reply.new.self in
    let inv = c.reading.invariant in
    let some = c.in-Some-next_reply.ensures.some in
    let r : Reply g.row.J.Denot = reply some.0 c.in-Some-next_reply.field-0-0.holder c.in-Some-next_reply.field-0-0.home c.in-Some-next_reply.answer in
    let one = c.settle_one-released.ensures in
    let more = ap (λ t. t.replies) one.told_is ∙ ap (λ t. t.replies) some.1 in
    let now = ap (λ t. t.asks) one.told_is ∙ ap (λ t. t.asks) some.1 in
    let room = ap (λ t. t.room) one.told_is ∙ ap (λ t. t.room) some.1 in
    let count = ap (λ t. length t.tries) one.told_is ∙ (length-append mid.tries _ ∙ ap (λ ts. length ts + 1) (ap (λ t. t.tries) some.1)) in
    let way = way_stored told new c.args.done.offers c.reading.stored c.reading.released c.reading.released r _ inv.way some.2 some.3 c.in-Some-receipts_in.ensures.some now more count room in
    let few = stored_few new.asks new.replies way.known way.apart in
    let stored = way.stored_are in
    let offers = way.offers_are in
    omega arith

pub reading-preserved : goal.reading-preserved
reading-preserved g c =
    let told = g.T.Transport.told c.reading.transport in
    let start = g.T.Transport.told c.args.transport.now in
    let mid = g.T.Transport.told c.next_reply.new.self in
    let inv = c.reading.invariant in
    let some = c.in-Some-next_reply.ensures.some in
    let r : Reply g.row.J.Denot = reply some.0 c.in-Some-next_reply.field-0-0.holder c.in-Some-next_reply.field-0-0.home c.in-Some-next_reply.answer in
    let none = c.in_default-receipts_in.ensures.none in
    let tries = ap (λ t. t.tries) some.1 in
    let replies = ap (λ t. t.replies) some.1 in
    let asks = ap (λ t. t.asks) some.1 in
    let room = ap (λ t. t.room) some.1 in
    record {
      way = way_unstored told mid _ r inv.way some.2 some.3 none asks replies tries room;
      settles = settles_none c.args.node c.args.done.released c.reading.released start told mid r inv.settles none tries replies;
      asks = asks ∙ inv.asks;
      room = room ∙ inv.room;
    }

pub returns-clause-way : goal.returns-clause-way
returns-clause-way g c = elim c.match-next.branch [
  | in-None w ↦ absurd (search rules)
  | in-Some+in_default w ↦ (let none = w.in_default.ensures.none in let way = c.reading.invariant.way in rw w.transport-is (rw none.0 (record {
    known = way.known;
    apart = way.apart;
    homes = way.homes;
    few = way.few;
    tries = way.tries;
    offers_are = way.offers_are;
    stored_are = way.stored_are;
  })))
]

pub returns-clause-out : goal.returns-clause-out
returns-clause-out g c = elim c.match-next.branch [
  | in-None w ↦ absurd (search rules)
  | in-Some+in_default w ↦ (let none = w.in_default.ensures.none in rw w.transport-is (rw none.0 refl, none.1))
]
