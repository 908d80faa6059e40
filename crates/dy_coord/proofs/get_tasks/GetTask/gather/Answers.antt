-- There is room for all that may be asked and read, and what was read is the coordinator's own row
-- and what the replies bring.
use Rattle.std.proofs.Common.{◌≡◌, ◌≤◌, ◌∷◌, List, length, arith, sym, ◌∙◌, length-append}
use Rattle.std.proofs.Common.{[], refl, ap, subst}
use Rattle.std.proofs.lemmas.List.Elements.{All-cons, All-nil}
use Rattle.std.specs.List.{All, Contains}
use Rattle.dy_preference.specs.Preferences.{home_for}
use Rattle.dy_core.specs.Logs.{Answer}
use Rattle.dy_transport.specs.Snapshots.{snapshot_of}
use Rattle.dy_transport.specs.declared.asked.Asked.{Asked}
use Rattle.dy_transport.specs.declared.asked.What.TheVariants.{Fetch}
use Rattle.dy_reads.specs.Lists.{homes_in}
use Rattle.dy_reads.specs.Rules.{home_asks}
use Rattle.dy_reads.proofs.Lists.{few_asked, all_home_whats, all_used, held_is_home}
use Rattle.dy_coord.specs.Gets.{seens_of}
use Rattle.dy_coord.proofs.ForHomes.{home_asks_for}
use Rattle.dy_coord.proofs.Getting.{IsLaterOf, seens_fit}
use Rattle.dy_coord.proofs.get_tasks.GetTask.gather.Goals as goal

pub ask_homes-requires-clause-room : goal.ask_homes-requires-clause-room
ask_homes-requires-clause-room g c =
    let p = c.requires.valid in
    let few : length c.args.list.now.nodes ≤ 32 = p.few in
    let enough = p.enough in
    let room : 32 ≤ (g.T.Transport.told c.args.transport.now).room = c.requires.room in
    rw c.requires.fresh_asks (omega arith)

pub read_rows-requires-clause-room : goal.read_rows-requires-clause-room
read_rows-requires-clause-room g c =
    let what = Fetch (snapshot_of c.args.self.now.key.now) c.args.self.now.since in
    let asked = few_asked c.args.list.now what c.args.coordinator c.requires.valid in
    let p = c.requires.valid in
    let few : length c.args.list.now.nodes ≤ 32 = p.few in
    let room : 32 ≤ (g.T.Transport.told c.args.transport.now).room = c.requires.room in
    let answers_room = c.requires.answers_room in
    let gathering_room = c.requires.gathering_room in
    let none = ap length c.requires.no_answers in
    let same = ap (λ t. t.room) c.add.ensures in
    record {
      fresh = c.ask_homes.ensures.replies;
      asks = rw (
        c.ask_homes.ensures.room,
        c.ask_homes.ensures.asks,
        c.requires.fresh_asks,
        c.home_for-held.ensures.value,
        c.new-assign.ensures.value,
      ) (omega arith);
      answers = rw (
        c.ask_homes.ensures.asks,
        c.requires.fresh_asks,
        c.home_for-held.ensures.value,
        c.new-assign.ensures.value,
        ap length c.push_reserved.ensures.items ∙ length-append c.args.answers.now.items _,
        c.push_reserved.ensures.capacity,
      ) (omega arith);
      pieces = rw (
        c.ask_homes.ensures.asks,
        c.requires.fresh_asks,
        c.home_for-held.ensures.value,
        c.new-assign.ensures.value,
      ) (omega arith);
    }

pub read_rows-requires-clause-whats : goal.read_rows-requires-clause-whats
read_rows-requires-clause-whats g c =
    let what = Fetch (snapshot_of c.args.self.now.key.now) c.args.self.now.since in
    let list = c.args.list.now in
    let P : List Asked → Type 0 = λ xs. All (λ a. a.what ≡ what) xs in
    let is : (g.T.Transport.told c.ask_homes.new.transport).asks
    ≡ home_asks what c.home_for-held.result (homes_in list) =
    c.ask_homes.ensures.asks ∙ rw c.requires.fresh_asks refl in
    subst P (sym is) (all_home_whats what c.home_for-held.result (homes_in list))

pub returns-clause-collects : goal.returns-clause-collects
returns-clause-collects g c =
    let told = g.T.Transport.told c.read_rows.new.transport in
    let key = c.args.self.now.key.now in
    let since = c.args.self.now.since in
    let what = Fetch (snapshot_of key) since in
    let list = c.args.list.now in
    let co = c.args.coordinator in
    let own : Answer = c.args.own in
    let is : (g.T.Transport.told c.ask_homes.new.transport).asks
    ≡ home_asks what (home_for (homes_in list) co) (homes_in list) =
    c.ask_homes.ensures.asks
    ∙ rw (c.requires.fresh_asks, c.home_for-held.ensures.value) refl in
    let reading = rw (is, c.new-assign.ensures.value) at c.read_rows.ensures.reading in
    let seens = c.read_rows.ensures.seens ∙ rw (c.add.ensures, c.requires.none) refl in
    let fit : All (IsLaterOf key since) (own ∷ seens_of told.replies) =
    All-cons (IsLaterOf key since) own (seens_of told.replies)
    (c.requires.own.key_is, c.requires.own.later)
    (seens_fit key since told.asks told.replies reading.whats reading.known) in
    let r = ap (λ t. t.r) c.add.ensures in
    record {
      asks = ap (λ p. p.0) reading.so_far;
      known = reading.known;
      seens_are = seens;
      for_homes = c.read_rows.ensures.for_homes (homes_in list)
          (rw is (home_asks_for what (home_for (homes_in list) co) (homes_in list)))
          (rw (c.add.ensures, c.requires.none)
          (All-cons (λ s. Contains (homes_in list) s.home) own []
          (subst (Contains (homes_in list)) (sym c.requires.own.home_is)
          (held_is_home list co c.requires.valid))
          (All-nil (λ s. Contains (homes_in list) s.home))));
      answers_are = c.read_rows.ensures.answers
          ∙ rw (
            c.push_reserved.ensures.items,
            c.requires.no_answers,
            c.home_for-held.ensures.value,
          ) refl;
      of_key = rw seens (λ k d lt. (fit k d lt).0);
      later = rw seens (λ k d lt. (fit k d lt).1);
      most = rw r at c.read_rows.ensures.most;
      stops = rw (c.add.ensures, c.requires.none) at c.read_rows.ensures.stops;
      out = λ lt. (let o = c.read_rows.ensures.out (rw r lt) in
          (o, all_used list what co told c.read_rows.new.assign reading o.1));
    }
