-- What the sessions of a closed cluster were sure to read: each belongs to the log that the cluster
-- ended with, which is legal, so what sessions of a legal log are sure to read holds of them.
use Rattle.std.proofs.Common.{◌≡◌, ◌<◌, ◌≤◌, ◌+◌, ◌-◌, ◌==◌, ℕ, List, [], ◌∷◌, true, length, map, refl}
use Rattle.std.proofs.Common.{false, ap}
use Rattle.std.proofs.Common.{◌∙◌, sym, subst, take, drop, ⊎_elim, arith}
use Rattle.std.specs.List.{All, Contains}
use Rattle.std.proofs.lemmas.Bool.{eq-eqb}
use Rattle.std.proofs.lemmas.List.{length-map, take-append-drop}
use Rattle.std.proofs.lemmas.List.Elements.{All-contains, All-contains_itself, All-weaker}
use Rattle.std.proofs.lemmas.List.Elements.{All-nil, All-cons, All-head, All-tail}
use Rattle.std.proofs.lemmas.List.Elements.{Contains-append_cases}
use Rattle.dy_siblings.specs.Siblings.{covers, newest}
use Rattle.dy_siblings.specs.Versions.{in_history, precedes}
use Rattle.dy_dots.specs.declared.dots.Dot.{Dot}
use Rattle.dy_siblings.specs.declared.versions.Version.{Version}
use Rattle.dy_siblings.proofs.Members.{any_from, any_gives, in_head, in_tail, not_in_nil}
use Rattle.dy_ring.specs.Rings.{Tokens}
use Rattle.dy_preference.specs.Preferences.{is_home}
use Rattle.dy_core.specs.Covers.{CoverThemselves}
use Rattle.dy_core.specs.Logs.{Answer, AnswerAgain, AreOfHomes, IsAnswer, IsLegal, MatchesLog}
use Rattle.dy_core.specs.Logs.{rows_of, world_after}
use Rattle.dy_core.specs.Worlds.{IsSettled, layout_of}
use Rattle.dy_core.specs.declared.acks.Acked.{Acked}
use Rattle.dy_core.specs.declared.places.Place.{Place}
use Rattle.dy_core.proofs.GetsOfHomes.{Answered, grows, homes_show, settled_get, stays_away}
use Rattle.dy_core.proofs.OverLogs.{issued_stays}
use Rattle.dy_core.proofs.Standing.{stands_from}
use Rattle.dy_shares.specs.Shares.{GetMatches, GetTold, IsAckSpent, IsOfHomes}
use Rattle.dy_shares.specs.Shares.{SessionBelongsTo}
use Rattle.dy_shares.specs.Shares.{SessionPart, own_homes, steps_of}
use Rattle.dy_shares.proofs.Readings.{covered_away, own_again, read_again, read_own}
use Rattle.dy_shares.proofs.Readings.{read_written}
use Rattle.dy_quorum.specs.Gatherings.{answer_place, first_answers}
use Rattle.dy_transport.specs.Told.{Told}
use Rattle.dy_coord.specs.Gets.{IsGot}
use Rattle.dy_coord.specs.Sure.{IsSureOf, ack_of, get_of}
use Rattle.dy_coord.specs.declared.get_done.GetDone.{GetDone}
use Rattle.dy_coord.specs.declared.put_results.PutDone.{PutDone}
use Rattle.dy_coord.proofs.Getting.{all_firsts}
use Rattle.dy_reads.specs.Lists.{homes_in}
use Rattle.dy_cluster.specs.Ends.{AtRest, IsClosed, IsEndOf}
use Rattle.dy_cluster.specs.Guarantees.{GivesNothingDeleted, IsRead, NeverGoesBack}
use Rattle.dy_cluster.specs.Guarantees.{ReadsOwnWrites, ReadsWritesOf}
use Rattle.dy_cluster.specs.Lists.{list_of}
use Rattle.dy_cluster.specs.declared.resting.Closed.{Closed}

-- a version that a get shows is in the row of one of its answers
answer_with : (answers : List Answer) (v : Version) → Contains (rows_of answers) v →
    Answered answers v
answer_with [] v h = absurd (not_in_nil v h)
answer_with (a ∷ rest) v h =
    ⊎_elim
    (λ here. record { answer = a; in_list = in_head a rest; in_row = here })
    (λ later. let x = answer_with rest v later in
    record { answer = x.answer; in_list = in_tail a x.answer rest x.in_list; in_row = x.in_row })
    (Contains-append_cases a.row (rows_of rest) v h)

module _ (ring : Tokens) (n r : ℕ) (tellings : List SessionPart) (closed : Closed)
    (ends : IsClosed ring n r tellings closed) where
  -- a session that was handed in belongs to the log
  belongs : (s : SessionPart) → Contains tellings s → SessionBelongsTo ends.0.book.log r s
  belongs s h =
      All-contains (SessionBelongsTo ends.0.book.log r) tellings s ends.1.audit.all.sessions_belong h

  -- what is so of each session that was handed in is so of all
  all_of : (P : SessionPart → Type 0) → ((s : SessionPart) → Contains tellings s → P s) →
      All P tellings
  all_of P each = All-weaker (Contains tellings) P each tellings (All-contains_itself tellings)

  pub reads_own : All (ReadsOwnWrites ring n r) tellings
  reads_own = all_of (ReadsOwnWrites ring n r) (λ s h i t spent is g in_gets behind must.
      read_own ring n r ends.0.book.log ends.1.legal s (belongs s h) i t spent is g in_gets behind
      must.0 must.1)

  pub reads_others : (writer : SessionPart) → Contains tellings writer →
      All (ReadsWritesOf ring n r writer) tellings
  reads_others writer w = all_of (ReadsWritesOf ring n r writer)
      (λ reader h i t spent is g in_gets later must.
      read_written ring n r ends.0.book.log ends.1.legal writer (belongs writer w) i t spent is
      reader (belongs reader h) g in_gets later must.0 must.1)

  pub never_back : All (NeverGoesBack ring n) tellings
  never_back = all_of (NeverGoesBack ring n)
      (λ s h. own_again ring n r ends.0.book.log ends.1.legal s (belongs s h))

  pub back_to_none : (first later : SessionPart) → Contains tellings first →
      Contains tellings later → (f g : GetTold) → Contains first.gets f →
      Contains later.gets g → (key : List ℕ) → IsOfHomes ring n key f → IsOfHomes ring n key g →
      AnswerAgain f.answers g.since g.answers → (d : Dot) → IsRead f d → IsRead g d
  back_to_none first later in_first in_later f g in_f in_g =
      read_again ring n r ends.0.book.log ends.1.legal first (belongs first in_first) f in_f
      later (belongs later in_later) g in_g

  pub answer_grows : (s t : SessionPart) (f g : GetTold) → Contains tellings s →
      Contains tellings t → Contains s.gets f → Contains t.gets g → (a b : Answer) →
      Contains f.answers a → Contains g.answers b → a.holder ≡ a.home → b.holder ≡ b.home →
      a.home ≡ b.home → a.key ≡ b.key → a.at < b.at → (d : Dot) → covers a.row d ≡ true →
      covers b.row d ≡ true
  answer_grows s t f g in_s in_t in_f in_g a b in_a in_b =
      let steps = steps_of ends.0.book.log in
      let first = All-contains (GetMatches steps r) s.gets f (belongs s in_s).gets_match in_f in
      let second = All-contains (GetMatches steps r) t.gets g (belongs t in_t).gets_match in_g in
      grows (layout_of ring n) steps ends.1.legal a b
      (All-contains (IsAnswer steps) f.answers a first.1.each_is in_a)
      (All-contains (IsAnswer steps) g.answers b second.1.each_is in_b)

  -- what was made stays made
  made_later : (k : ℕ) (v : Version) →
      Contains (world_after (take k (steps_of ends.0.book.log))).versions v →
      Contains (world_after (steps_of ends.0.book.log)).versions v
  made_later k v h =
      let layout = layout_of ring n in
      let steps = steps_of ends.0.book.log in
      subst (λ xs. Contains (world_after xs).versions v) (take-append-drop k steps)
      (issued_stays layout (take k steps) (drop k steps)
      (subst (IsLegal layout) (sym (take-append-drop k steps)) ends.1.legal) v h)

  -- what a get showed was made
  shown_is_made : (s : SessionPart) → Contains tellings s → (f : GetTold) → Contains s.gets f →
      (v : Version) → Contains (rows_of f.answers) v →
      Contains (world_after (steps_of ends.0.book.log)).versions v
  shown_is_made s h f in_gets v shown =
      let steps = steps_of ends.0.book.log in
      let matches = All-contains (GetMatches steps r) s.gets f (belongs s h).gets_match in_gets in
      let has = answer_with f.answers v shown in
      let a = has.answer in
      let is = All-contains (IsAnswer steps) f.answers a matches.1.each_is has.in_list in
      let stands = stands_from (world_after (take (a.at - 1) steps)) a.holder a.home a.key v
      ((is.is_row v).0 has.in_row) in
      made_later (a.at - 1) v stands.made

  pub stays_deleted : (other : SessionPart) → Contains tellings other →
      All (GivesNothingDeleted other) tellings
  stays_deleted other o = all_of (GivesNothingDeleted other)
      (λ reader h f g in_f in_g v shown.
      covered_away ring n r ends.0.book.log ends.1.legal v (shown_is_made other o f in_f v shown)
      reader (belongs reader h) g in_g)

module _ (ring : Tokens) (n r : ℕ) (c : AtRest) (tellings : List SessionPart) (closed : Closed)
    (ends : IsEndOf ring n r c tellings closed) where
  -- a get matches the log after each step that its session knew of before it
  matches_from : (s : SessionPart) (g : GetTold) → Contains tellings s → Contains s.gets g →
      (key : List ℕ) (since : ℕ) → since ≤ g.since → All (λ a. a.key ≡ key) g.answers →
      MatchesLog (steps_of c.book.log) key r since g.answers
  matches_from s g in_s in_g key since le of_key =
      let own = belongs ring n r tellings closed (c, ends) s in_s in
      let m = (All-contains (GetMatches (steps_of c.book.log) r) s.gets g own.gets_match in_g).1 in
      record {
        count_is = m.count_is;
        each_is = m.each_is;
        each_later = All-weaker (λ a. g.since < a.at) (λ a. since < a.at)
            (λ a lt. omega (arith, lt, le)) g.answers m.each_later;
        each_key = of_key;
        homes_distinct = m.homes_distinct;
      }

  pub gives_taken : (s : SessionPart) (g : GetTold) → Contains tellings s → Contains s.gets g →
      (key : List ℕ) (since : ℕ) (d : Dot) (took : List ℕ) →
      CoverThemselves (world_after (take since (steps_of c.book.log))) key d took →
      since ≤ g.since → IsOfHomes ring n key g → n < r + length took → IsRead g d
  gives_taken s g in_s in_g key since d took cover le of enough =
      homes_show ring n (steps_of c.book.log) ends.legal key since d took cover r g.answers
      (matches_from s g in_s in_g key since le of.0) of.1 enough

  pub gives_settled : (s : SessionPart) (g : GetTold) → Contains tellings s → Contains s.gets g →
      (since : ℕ) (x : Acked) → IsSettled (world_after (take since (steps_of c.book.log))) x.key →
      Contains (world_after (take since (steps_of c.book.log))).acks x → since ≤ g.since →
      IsOfHomes ring n x.key g → n < r + x.w → IsRead g x.dot
  gives_settled s g in_s in_g since x settled acked le of enough =
      settled_get ring n (steps_of c.book.log) ends.legal x.key since settled x.dot x.w acked r
      g.answers (matches_from s g in_s in_g x.key since le of.0) of.1 enough

  pub gives_replaced : (s : SessionPart) (g : GetTold) → Contains tellings s →
      Contains s.gets g → (v : Version) →
      Contains (world_after (steps_of c.book.log)).versions v →
      All (λ a. a.key ≡ v.key) g.answers → IsRead g v.dot →
      All (λ u. precedes u v ≡ false) (newest (rows_of g.answers))
  gives_replaced s g in_s in_g v made of =
      stays_away (layout_of ring n) (steps_of c.book.log) ends.legal v made r g.since g.answers
      (matches_from s g in_s in_g v.key g.since (omega arith) of)

-- where places of answers are of homes themselves, so are the answers
own_places : (answers : List Answer) →
    All (λ (p : Place). p.holder ≡ p.home) (map answer_place answers) →
    All (λ a. a.holder ≡ a.home) answers
own_places [] all = All-nil (λ a. a.holder ≡ a.home)
own_places (a ∷ answers) all =
    All-cons (λ a. a.holder ≡ a.home) a answers
    (All-head (λ (p : Place). p.holder ≡ p.home) (answer_place a) (map answer_place answers) all)
    (own_places answers
    (All-tail (λ (p : Place). p.holder ≡ p.home) (answer_place a) (map answer_place answers) all))

-- a home in a list is found there
found : (homes : List ℕ) (home : ℕ) → Contains homes home → is_home homes home ≡ true
found homes home h = any_from (λ x. x == home) homes home h (eq-eqb home home refl)

module _ {J : Type 0} where
  -- what a get is sure to see, it has
  pub seen_is_there : (ring : Tokens) (n r : ℕ) (tellings : List SessionPart) (closed : Closed) →
      IsClosed ring n r tellings closed →
      (writer reader : SessionPart) → Contains tellings writer → Contains tellings reader →
      (key : List ℕ) (w i acks : ℕ) (put : PutDone J) →
      IsAckSpent writer i (ack_of key w put) put.spent.items →
      (told : Told J) (get : GetDone J) → IsGot (list_of ring n key) key r get.since told get →
      Contains reader.gets (get_of acks get) → IsSureOf n get put →
      covers get.row.versions put.dot ≡ true
  seen_is_there ring n r tellings closed ends writer reader in_w in_r key w i acks put is told get
      got in_gets sure =
      let firsts : List Answer = first_answers get.seen.items in
      let homes : List ℕ = homes_in (list_of ring n key) in
      let own : All (λ a. a.holder ≡ a.home) firsts =
      own_places firsts (subst (λ ps. All (λ (p : Place). p.holder ≡ p.home) ps) got.from sure.of_homes) in
      let for : All (λ a. Contains homes a.home) firsts =
      all_firsts (λ a. Contains homes a.home) get.seen.items got.gathers.for_homes in
      let of_homes : AreOfHomes homes firsts =
      All-weaker (Contains firsts) (λ a. (is_home homes a.home ≡ true) × (a.holder ≡ a.home))
      (λ a h. (
        found homes a.home (All-contains (λ b. Contains homes b.home) firsts a for h),
        All-contains (λ b. b.holder ≡ b.home) firsts a own h,
      ))
      firsts (All-contains_itself firsts) in
      let count : length get.from.items ≡ r =
      ap length got.from ∙ (length-map firsts answer_place ∙ got.used.count) in
      let enough : n < r + length (own_homes put.spent.items) =
      omega (arith, count, sure.enough) in
      let c = All-contains (ReadsWritesOf ring n r writer) tellings reader
      (reads_others ring n r tellings closed ends writer in_w) in_r i (ack_of key w put)
      put.spent.items is (get_of acks get) in_gets sure.later ((got.used.of_key, of_homes), enough)
      in
      let f = any_gives (λ v. in_history v put.dot) (newest (rows_of firsts)) c in
      any_from (λ v. in_history v put.dot) get.row.versions f.item ((got.row f.item).1 f.in_list)
      f.passes
