-- What was begun is spread, and then it is decided: the pieces of one put are put together.
use Rattle.std.proofs.Common.{◌≡◌, ℕ, List, arith, sym, ◌∙◌, refl, subst, inl, inr}
use Rattle.dy_preference.specs.Preferences.{home_for, preference_of}
use Rattle.dy_core.specs.Worlds.{layout_of}
use Rattle.dy_shares.specs.Shares.{ReceiptParts, receipt_parts}
use Rattle.dy_book.specs.Books.{AreOf}
use Rattle.dy_transport.specs.Told.{Told}
use Rattle.dy_reads.specs.Lists.{homes_in}
use Rattle.dy_reads.specs.Tries.{begin_try}
use Rattle.dy_coord.specs.Puts.{Spreads}
use Rattle.dy_coord.specs.inside.PutReads.{with_tries}
use Rattle.dy_coord.proofs.Holders.{all_of_one, dot_in}
use Rattle.dy_coord.proofs.Trying.{tried_count}
use Rattle.dy_coord.proofs.put_tasks.PutTask.put_in_range.Goals as goal

pub returns-in-Err-clause-runs : goal.returns-in-Err-clause-runs
returns-in-Err-clause-runs g c = inr (
  refl,
  c.requires.fresh.asks,
  c.requires.fresh.replies,
  (
    c.early.result,
    refl,
    c.early.ensures.dot,
    c.early.ensures.answers,
    inl (
      c.early.ensures.fault
          ∙ c.in-Err.ensures.memory,
      c.requires.fresh.tries,
    ),
  ),
)

pub returns-in-NoNode-clause-runs : goal.returns-in-NoNode-clause-runs
returns-in-NoNode-clause-runs g c =
    let l = c.in-NoNode.ensures in
    inr (
      refl,
      l.asks ∙ c.requires.fresh.asks,
      l.replies ∙ c.requires.fresh.replies,
      (
        c.early-in-NoNode.result,
        refl,
        c.early-in-NoNode.ensures.dot,
        c.early-in-NoNode.ensures.answers,
        inr (inl (c.early-in-NoNode.ensures.fault, l.tries)),
      ),
    )

pub returns-in-Refused-clause-runs : goal.returns-in-Refused-clause-runs
returns-in-Refused-clause-runs g c =
    let l = c.in-Refused.ensures in
    inr (
      refl,
      l.asks ∙ c.requires.fresh.asks,
      l.replies ∙ c.requires.fresh.replies,
      (
        c.early-in-Refused.result,
        refl,
        c.early-in-Refused.ensures.dot,
        c.early-in-Refused.ensures.answers,
        inr (inr (rw c.early-in-Refused.ensures.fault l.tries)),
      ),
    )

-- the row that was begun has a version of the dot
pub spread-requires-clause-dot : goal.spread-requires-clause-dot
spread-requires-clause-dot g c = let b = c.in-At.ensures.begun in
    dot_in c.in-At.begun.dot c.in-At.begun.row.versions b.version b.in_row b.dot_is

-- it is of the put's key
pub spread-requires-clause-nodes : goal.spread-requires-clause-nodes
spread-requires-clause-nodes g c =
    let P : List ℕ → Type 0 = λ k. c.args.list.now.nodes ≡ preference_of g.J.Naming.ring k in
    subst P (sym c.in-At.ensures.begun.key_is) c.requires.nodes

pub spread-requires-clause-own : goal.spread-requires-clause-own
spread-requires-clause-own g c =
    let b = c.in-At.ensures.begun in
    let P : List ℕ → Type 0 = λ k. c.in-At.begun.receipt ≡ receipt_parts k c.in-At.begun.dot
    c.in-At.c (home_for (homes_in c.args.list.now) c.in-At.c) in
    subst P (sym b.key_is) b.receipt_is

-- so are all receipts
pub conclude-requires-clause-of_one : goal.conclude-requires-clause-of_one
conclude-requires-clause-of_one g c =
    let P : List ReceiptParts → Type 0 = λ xs. AreOf c.in-At.begun.row.key c.in-At.begun.dot xs in
    let Q : List ℕ → Type 0 = λ k. AreOf k c.in-At.begun.dot c.spread.new.tally.added in
    subst Q c.in-At.ensures.begun.key_is (subst P (sym c.spread.ensures.spreads.added_are)
    (all_of_one c.in-At.begun.row.key c.in-At.begun.dot (home_for (homes_in c.args.list.now)
    c.in-At.c) c.in-At.c (g.T.Transport.told c.spread.new.transport).replies))

-- no node was tried twice, so there is room for the ack
pub conclude-requires-clause-room : goal.conclude-requires-clause-room
conclude-requires-clause-room g c =
    let nodes = c.args.list.now.nodes in
    let at = c.in-At.ensures.tries in
    let task = c.args.self.now in
    let count = tried_count (begin_try c.args.list.now task.key.now task.context.now task.value)
    nodes (g.T.Transport.told c.begin_somewhere.new.transport).tries c.in-At.c _ at in
    let few = c.requires.valid.few in
    let room = c.requires.fresh.room in
    rw (c.spread.ensures.tries, c.spread.ensures.room, c.begin_somewhere.ensures.room)
    (omega arith)

pub returns-in-At-clause-runs : goal.returns-in-At-clause-runs
returns-in-At-clause-runs g c =
    let s = c.spread.ensures.spreads in
    let told = g.T.Transport.told c.spread.new.transport in
    let tried = (g.T.Transport.told c.conclude.new.transport).tries in
    let P : Told g.row.J.Denot → Type 0 = λ t. Spreads c.args.list.now c.in-At.begun.row
    c.in-At.begun.dot c.in-At.c t c.spread.new.tally.added c.spread.new.answers.items in
    let spreads : P (with_tries told tried) = record {
      asks = s.asks;
      out = s.out;
      used = s.used;
      known = s.known;
      added_are = s.added_are;
      agree = s.agree;
      answers_are = s.answers_are;
    } in
    inl (
      c.in-At.c,
      c.in-At.begun,
      record {
        added = c.spread.new.tally.added;
        answers = c.spread.new.answers.items;
        begins = (g.T.Transport.told c.begin_somewhere.new.transport).tries;
        begins_are = c.in-At.ensures.tries;
        layout = layout_of g.J.Naming.ring g.J.Naming.n;
        homes_are = rw (c.requires.nodes, c.requires.homes) refl;
        begun_is = c.in-At.ensures.begun;
        spreads = subst P (sym c.conclude.ensures.told) spreads;
        ends = rw (sym c.spread.ensures.tries) c.conclude.ensures.ends;
      },
    )
