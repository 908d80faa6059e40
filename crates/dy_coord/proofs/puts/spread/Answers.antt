-- From the homes on: those asked and those left are few and all different, may hold, and are asked
-- for one row; so a put reads until nothing is left, by the rule.
use Rattle.std.proofs.Common.{◌≡◌, ◌++◌, ◌∷◌, ℕ, List, length, nat_eq, arith, sym, ◌∙◌, refl, ap, length-append}
use Rattle.std.proofs.Common.{subst}
use Rattle.std.specs.Borrow.{Bor}
use Rattle.std.specs.List.{All, IsDistinct}
use Rattle.dy_siblings.specs.Siblings.{Siblings}
use Rattle.dy_preference.specs.Preferences.{home_for, stand_ins_of}
use Rattle.dy_transport.specs.Snapshots.{snapshot_of}
use Rattle.dy_transport.specs.declared.asked.Asked.{Asked}
use Rattle.dy_transport.specs.declared.asked.What.TheVariants.{Store}
use Rattle.dy_reads.specs.Lists.{homes_in}
use Rattle.dy_reads.specs.Rules.{home_asks, nodes_asked, MayStandIn}
use Rattle.dy_reads.specs.declared.requests.Request.TheVariants as request
use Rattle.dy_reads.proofs.Lists.{few_asked, apart_asked, all_home_whats, all_used}
use Rattle.dy_reads.proofs.Allowed.{homes_may, stand_ins_may}
use Rattle.dy_coord.proofs.puts.spread.Goals as goal

-- the row, lent; no clause reads where it lies
abbrev lent : Siblings → Bor Siblings
lent row = record { ref_ptr = (0, 0); now = row }

pub ask_homes-requires-clause-room : goal.ask_homes-requires-clause-room
ask_homes-requires-clause-room g c =
    let few = c.requires.valid.few in
    let enough = c.requires.valid.enough in
    let room = c.requires.room in
    rw c.requires.fresh_asks (omega arith)

pub ask_homes-requires-clause-may_ask : goal.ask_homes-requires-clause-may_ask
ask_homes-requires-clause-may_ask g c =
    homes_may {J = g.row.J.Denot} g.J.Naming.ring g.J.Naming.n (request.Store (lent c.args.begun.row))
    c.args.list.now (c.requires.nodes, c.requires.homes)

pub read_put-requires-clause-room : goal.read_put-requires-clause-room
read_put-requires-clause-room g c =
    let asked = few_asked c.args.list.now (Store (snapshot_of c.args.begun.row)) c.args.coordinator
    c.requires.valid in
    let few = c.requires.valid.few in
    let room = c.requires.room in
    let answers_room = c.requires.answers_room in
    let tally_room = c.requires.tally_room in
    let none = ap length c.requires.no_answers in
    let same = ap (λ t. t.room) c.add.ensures.value in
    record {
      fresh = c.ask_homes.ensures.replies;
      asks = rw (
        c.ask_homes.ensures.room,
        c.ask_homes.ensures.asks,
        c.requires.fresh_asks,
        c.home_for-held.ensures.value,
        c.new-assign.ensures.value,
      ) (omega arith);
      answers = rw (
        c.ask_homes.ensures.asks,
        c.requires.fresh_asks,
        c.home_for-held.ensures.value,
        c.new-assign.ensures.value,
        ap length c.push_reserved.ensures.items ∙ length-append c.args.answers.now.items _,
        c.push_reserved.ensures.capacity,
      ) (omega arith);
      pieces = rw (
        c.ask_homes.ensures.asks,
        c.requires.fresh_asks,
        c.home_for-held.ensures.value,
        c.new-assign.ensures.value,
      ) (omega arith);
    }

pub read_put-requires-clause-whats : goal.read_put-requires-clause-whats
read_put-requires-clause-whats g c =
    let P : List Asked → Type 0 = λ xs. All (λ a. a.what ≡ Store (snapshot_of c.args.begun.row)) xs in
    let is : (g.T.Transport.told c.ask_homes.new.transport).asks ≡ home_asks
    (Store (snapshot_of c.args.begun.row)) c.home_for-held.result (homes_in c.args.list.now) =
    c.ask_homes.ensures.asks ∙ rw c.requires.fresh_asks refl in
    subst P (sym is) (all_home_whats (Store (snapshot_of c.args.begun.row)) c.home_for-held.result
    (homes_in c.args.list.now))

pub read_put-requires-clause-may_ask : goal.read_put-requires-clause-may_ask
read_put-requires-clause-may_ask g c =
    let list = c.args.list.now in
    let co = c.args.coordinator in
    let P : List Asked → Type 0 = λ xs. MayStandIn {J = g.row.J.Denot} g.J.Naming.ring g.J.Naming.n
    (request.Store (lent c.args.begun.row)) xs (stand_ins_of list.nodes list.n co) in
    let Q : List ℕ → Type 0 = λ ss. MayStandIn {J = g.row.J.Denot} g.J.Naming.ring g.J.Naming.n
    (request.Store (lent c.args.begun.row)) (g.T.Transport.told c.ask_homes.new.transport).asks ss in
    let is : (g.T.Transport.told c.ask_homes.new.transport).asks ≡ home_asks
    (Store (snapshot_of c.args.begun.row)) c.home_for-held.result (homes_in list) =
    c.ask_homes.ensures.asks ∙ rw c.requires.fresh_asks refl in
    subst Q (sym c.new-assign.ensures.value) (subst P (sym is)
    (stand_ins_may {J = g.row.J.Denot} g.J.Naming.ring g.J.Naming.n (request.Store (lent c.args.begun.row))
    (Store (snapshot_of c.args.begun.row)) c.home_for-held.result co list c.requires.valid
    (c.requires.nodes, c.requires.homes)))

-- the coordinator's receipt alone is counted, and it is asked nothing
pub read_put-requires-clause-own : goal.read_put-requires-clause-own
read_put-requires-clause-own g c =
    let list = c.args.list.now in
    let co = c.args.coordinator in
    let is : (g.T.Transport.told c.ask_homes.new.transport).asks ≡ home_asks
    (Store (snapshot_of c.args.begun.row)) (home_for (homes_in list) co) (homes_in list) =
    c.ask_homes.ensures.asks ∙ rw (c.requires.fresh_asks, c.home_for-held.ensures.value) refl in
    let P : List Asked → Type 0 = λ xs. IsDistinct nat_eq (co ∷ nodes_asked xs ++ stand_ins_of
    list.nodes list.n co) in
    let Q : List ℕ → Type 0 = λ ss. IsDistinct nat_eq (co ∷ nodes_asked (g.T.Transport.told
    c.ask_homes.new.transport).asks ++ ss) in
    record {
      holder = co;
      home = home_for (homes_in list) co;
      added_are = rw (c.add.ensures.value, c.requires.none, c.requires.own) refl;
      apart = subst Q (sym c.new-assign.ensures.value) (subst P (sym is) (apart_asked list
          (Store (snapshot_of c.args.begun.row)) co c.requires.valid));
    }

pub returns-clause-spreads : goal.returns-clause-spreads
returns-clause-spreads g c =
    let told = g.T.Transport.told c.read_put.new.transport in
    let list = c.args.list.now in
    let co = c.args.coordinator in
    let is : (g.T.Transport.told c.ask_homes.new.transport).asks ≡ home_asks
    (Store (snapshot_of c.args.begun.row)) (home_for (homes_in list) co) (homes_in list) =
    c.ask_homes.ensures.asks ∙ rw (c.requires.fresh_asks, c.home_for-held.ensures.value) refl in
    let reading = rw (is, c.new-assign.ensures.value) at c.read_put.ensures.reading in
    let out = c.read_put.ensures.out in
    record {
      asks = ap (λ p. p.0) reading.so_far;
      out = out;
      used = all_used list (Store (snapshot_of c.args.begun.row)) co told c.read_put.new.assign
          reading
          out.1;
      known = reading.known;
      agree = c.read_put.ensures.agree;
      added_are = c.read_put.ensures.added
          ∙ rw (c.add.ensures.value, c.requires.none, c.requires.own) refl;
      answers_are = c.read_put.ensures.answers ∙ rw (
        c.push_reserved.ensures.items,
        c.requires.no_answers,
        c.home_for-held.ensures.value,
      ) refl;
    }
