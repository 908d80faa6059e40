use Rattle.std.proofs.Common.{◌≡◌, ◌+◌, ℕ, List, length, length-append, ap, sym, ◌∙◌, refl}
use Rattle.dy_transport.specs.declared.asked.Asked.{Asked}
use Rattle.dy_reads.specs.Rules.{MayStandIn, requested}
use Rattle.dy_reads.proofs.Allowed.{may_after}
use Rattle.dy_reads.proofs.reads.read_next.Goals as goal
use Rattle.dy_reads.proofs.reads.read_next.Goals.{then-not-is_served, else-not-is_served}

-- the stand-in was asked for the home of the answer
pub returns-clause-may_ask : goal.returns-clause-may_ask
returns-clause-may_ask g c =
    let some = c.in-Some.ensures.some in
    let old = g.T.Transport.told c.args.transport.now in
    let mid = g.T.Transport.told c.next_reply.new.self in
    let same : mid.asks ≡ old.asks = ap (λ t. t.asks) some.1 in
    let told = g.T.Transport.told c.if-not-is_served.transport in
    let P : List Asked → List ℕ → Type 0 = λ asks left. MayStandIn g.J.Naming.ring g.J.Naming.n
    c.args.request.now asks left in
    elim c.if-not-is_served.branch [
      | then-not-is_served w ↦ rw (w.transport-is, w.assign-is)
          (may_after g.J.Naming.ring g.J.Naming.n c.args.request.now (requested c.args.request.now)
          (length mid.replies) old.asks mid.asks _ c.args.assign.now _ some.0 _ _ _ same some.2
          w.ask_next.ensures.asks c.requires.may_ask)
      | else-not-is_served w ↦ rw (w.transport-is, w.assign-is, same) c.requires.may_ask
    ]

-- what was read is told, and where it is not what was asked for one node more was asked
pub returns-clause-some : goal.returns-clause-some
returns-clause-some g c =
    let some = c.in-Some.ensures.some in
    let old = g.T.Transport.told c.args.transport.now in
    let mid = g.T.Transport.told c.next_reply.new.self in
    let what = requested c.args.request.now in
    let count : length mid.replies ≡ length old.replies + 1 =
    ap (λ t. length t.replies) some.1 ∙ length-append old.replies _ in
    elim c.if-not-is_served.branch [
      | then-not-is_served w ↦ rw (w.transport-is, w.assign-is) (
        some.0,
        record {
          answers = some.2;
          within = c.in-Some.ensures.within;
          asks = w.ask_next.ensures.asks ∙ rw (sym c.is_served.ensures ∙ w.if-not-is_served.true)
              (rw (count, some.1) refl);
          replies = w.ask_next.ensures.replies ∙ ap (λ t. t.replies) some.1;
          tries = w.ask_next.ensures.tries ∙ ap (λ t. t.tries) some.1;
          room = w.ask_next.ensures.room ∙ ap (λ t. t.room) some.1;
        },
      )
      | else-not-is_served w ↦ rw (w.transport-is, w.assign-is) (
        some.0,
        record {
          answers = some.2;
          within = c.in-Some.ensures.within;
          asks = rw (sym c.is_served.ensures ∙ w.if-not-is_served.false)
              (ap (λ t. (t.asks, c.args.assign.now)) some.1);
          replies = ap (λ t. t.replies) some.1;
          tries = ap (λ t. t.tries) some.1;
          room = ap (λ t. t.room) some.1;
        },
      )
    ]

-- where an answer is given, nothing is said of none
pub returns-clause-none : goal.returns-clause-none
returns-clause-none g c = tt

-- it is listed with its node, its home and its kind
pub returns-clause-listed : goal.returns-clause-listed
returns-clause-listed g c = rw (c.push_reserved.ensures.items, c.kind_of.ensures) refl
