-- Gets that homes themselves answer: what one home covered for itself each later answer of it covers, and the newest of rows that cover a version have none that precedes it.
use Rattle.std.proofs.Common.{◌≡◌, ℕ, ◌+◌, ◌-◌, ◌<◌, ◌≤◌, true, false, not, eqb, List, [], ◌∷◌, ◌++◌, length, map, take, drop, sym, ap, ◌∙◌, subst, ⊎_elim, arith}
use Rattle.std.specs.List.{All, Contains}
use Rattle.std.specs.FinSet as set
use Rattle.std.proofs.lemmas.Bool.{or_cases, or_right, eqb-true, not-true, cases_Bool, true≢false}
use Rattle.std.proofs.lemmas.List.{take-append-drop, take-take, length-map, length-take}
use Rattle.std.proofs.lemmas.List.Elements.{All-contains, All-contains_itself, All-weaker, Contains-append_left, Contains-append_right, Contains-append_cases}
use Rattle.dy_dots.specs.Dots.{same_dot}
use Rattle.dy_dots.proofs.SameDots.{same_dot_is}
use Rattle.dy_siblings.specs.Versions.{in_history, precedes}
use Rattle.dy_siblings.specs.Siblings.{covers, is_past, newest}
use Rattle.dy_preference.specs.Preferences.{is_home, homes_of, preference_of}
use Rattle.dy_ring.specs.Rings.{Tokens}
use Rattle.dy_core.specs.Worlds.{Layout, layout_of, World, empty_world, row_at, IsSettled}
use Rattle.dy_core.specs.Covers.{CoverThemselves, CoversAt, HasCover, covers_at}
use Rattle.dy_core.specs.Logs.{world_after, IsLegal, Answer, AnswerAgain, IsAnswer, MatchesLog, AreOfHomes, rows_of}
use Rattle.dy_dots.specs.declared.dots.Dot.{Dot}
use Rattle.dy_siblings.specs.declared.versions.Version.{Version}
use Rattle.dy_core.specs.declared.steps.Step.{Step}
use Rattle.dy_siblings.proofs.Members.{Mapped, map_from, not_in_nil, in_head, in_tail, in_cases, any_gives, any_from, filter_from}
use Rattle.dy_core.proofs.Ordered.{IsOrdered, AreOf, newest_covers, past_is_known, same_version}
use Rattle.dy_core.proofs.Standing.{covering_from, stands_in, stands_from}
use Rattle.dy_core.proofs.Receipts.{cover_home}
use Rattle.dy_core.proofs.OverLogs.{log_sound, acks_covered, legal_front, own_stays, issued_stays}
use Rattle.dy_core.proofs.Pigeons.{Shared, shared}

-- a version in one of the rows
pub record Answered (answers : List Answer) (v : Version) : Type 0 where
  pub answer : Answer
  pub in_list : Contains answers answer
  pub in_row : Contains answer.row v

rows_from : (answers : List Answer) (v : Version) → Contains (rows_of answers) v → Answered answers v
rows_from [] v h = absurd (not_in_nil v h)
rows_from (a ∷ rest) v h =
    ⊎_elim
    (λ here. record { answer = a; in_list = in_head a rest; in_row = here })
    (λ later. let r = rows_from rest v later in record { answer = r.answer; in_list = in_tail a r.answer rest r.in_list; in_row = r.in_row })
    (Contains-append_cases a.row (rows_of rest) v h)

rows_in : (answers : List Answer) (a : Answer) (v : Version) → Contains answers a → Contains a.row v → Contains (rows_of answers) v
rows_in [] a v h r = absurd (not_in_nil a h)
rows_in (b ∷ rest) a v h r =
    ⊎_elim
    (λ same. Contains-append_left b.row (rows_of rest) v (subst (λ x. Contains x.row v) same r))
    (λ later. Contains-append_right b.row (rows_of rest) v (rows_in rest a v later r))
    (in_cases b a rest h)

-- what precedes a version is not among the newest of rows that cover it
replaced : (all : List Version) → IsOrdered all → (vs : List Version) (v : Version) → AreOf all v.key vs → Contains all v → covers vs v.dot ≡ true →
    (u : Version) → precedes u v ≡ true → Contains (newest vs) u → ⊥
replaced all o vs v of made c u before h =
    let f = any_gives (λ x. in_history x v.dot) vs c in
    let x_of = of f.item f.in_list in
    let x_past : set.contains f.item.past u.dot ≡ true =
    ⊎_elim
    (λ same.
    let is = same_version all o f.item v x_of.0 made x_of.1 (same_dot_is f.item.dot v.dot same) in
    ap (λ y. set.contains y.past u.dot) is ∙ before)
    (λ past.
    let k = past_is_known all o f.item x_of.0 v.dot past in
    let is = same_version all o k.version v k.in_list made (k.key_is ∙ x_of.1) k.dot_is in
    k.history_in u.dot (ap (λ y. in_history y u.dot) is ∙ or_right (same_dot v.dot u.dot) (set.contains v.past u.dot) before))
    (or_cases (same_dot f.item.dot v.dot) (set.contains f.item.past v.dot) f.passes) in
    let is_in : is_past vs u.dot ≡ true = any_from (λ y. set.contains y.past u.dot) vs f.item f.in_list x_past in
    true≢false (sym is_in ∙ not-true (is_past vs u.dot) (filter_from (λ y. not (is_past vs y.dot)) vs u h).1)

-- what the newest of some versions cover, all of them cover
all_cover : (vs : List Version) (d : Dot) → covers (newest vs) d ≡ true → covers vs d ≡ true
all_cover vs d c =
    let f = any_gives (λ v. in_history v d) (newest vs) c in
    any_from (λ v. in_history v d) vs f.item (filter_from (λ v. not (is_past vs v.dot)) vs f.item f.in_list).0 f.passes

module _ (layout : Layout) (steps : List Step) (legal : IsLegal layout steps) where
  front_legal : (k : ℕ) → IsLegal layout (take k steps)
  front_legal k = legal_front layout empty_world (take k steps) (drop k steps) (subst (IsLegal layout) (sym (take-append-drop k steps)) legal)

  later_is : (since k : ℕ) → since ≤ k → take since steps ++ drop since (take k steps) ≡ take k steps
  later_is since k le = ap (λ xs. xs ++ drop since (take k steps)) (sym (take-take since k steps le)) ∙ take-append-drop since (take k steps)

  own_later : (since k : ℕ) → since ≤ k → (key : List ℕ) (d : Dot) (home : ℕ) →
      covers_at (world_after (take since steps)) key d home home ≡ true → covers_at (world_after (take k steps)) key d home home ≡ true
  own_later since k le key d home c =
      subst (λ xs. covers_at (world_after xs) key d home home ≡ true) (later_is since k le)
      (own_stays layout (take since steps) (drop since (take k steps)) (subst (IsLegal layout) (sym (later_is since k le)) (front_legal k)) key d home c)

  made_later : (k : ℕ) (v : Version) → Contains (world_after (take k steps)).versions v → Contains (world_after steps).versions v
  made_later k v h =
      subst (λ xs. Contains (world_after xs).versions v) (take-append-drop k steps)
      (issued_stays layout (take k steps) (drop k steps) (subst (IsLegal layout) (sym (take-append-drop k steps)) legal) v h)

  -- what an answer of a home itself covers, a later one covers
  pub grows : (a b : Answer) → IsAnswer steps a → IsAnswer steps b → a.holder ≡ a.home → b.holder ≡ b.home → a.home ≡ b.home → a.key ≡ b.key → a.at < b.at →
      (d : Dot) → covers a.row d ≡ true → covers b.row d ≡ true
  grows a b is_a is_b a_itself b_itself same_home same_key before d c =
      let first = world_after (take (a.at - 1) steps) in
      let second = world_after (take (b.at - 1) steps) in
      let f = any_gives (λ v. in_history v d) a.row c in
      let at_a : covers_at first a.key d a.holder a.home ≡ true =
      any_from (λ v. in_history v d) (row_at first a.holder a.home a.key) f.item ((is_a.is_row f.item).0 f.in_list) f.passes in
      let own : covers_at first b.key d b.home b.home ≡ true =
      (λ i. covers_at first (sym same_key i) d ((sym same_home ∙ sym a_itself) i) (sym same_home i)) ∙ at_a in
      let at_b : covers_at second b.key d b.holder b.home ≡ true =
      (λ i. covers_at second b.key d (b_itself i) b.home) ∙ own_later (a.at - 1) (b.at - 1) (omega arith) b.key d b.home own in
      let g = any_gives (λ v. in_history v d) (row_at second b.holder b.home b.key) at_b in
      any_from (λ v. in_history v d) b.row g.item ((is_b.is_row g.item).1 g.in_list) g.passes

  home_in : (key : List ℕ) (home : ℕ) → is_home (layout.homes key) home ≡ true → Contains (layout.homes key) home
  home_in key home e =
      let f = any_gives (λ h. eqb h home) (layout.homes key) e in
      subst (Contains (layout.homes key)) (eqb-true f.item home f.passes) f.in_list

  module _ (key : List ℕ) (r since : ℕ) (answers : List Answer) (get : MatchesLog steps key r since answers) where
    answers_made : AreOf (world_after steps).versions key (rows_of answers)
    answers_made v h =
        let r = rows_from answers v h in
        let a = r.answer in
        let is = All-contains (IsAnswer steps) answers a get.each_is r.in_list in
        let s = stands_from (world_after (take (a.at - 1) steps)) a.holder a.home a.key v ((is.is_row v).0 r.in_row) in
        (made_later (a.at - 1) v s.made, s.key_is ∙ All-contains (λ a. a.key ≡ key) answers a get.each_key r.in_list)

    -- what a home covered for itself, its later answer covers
    answer_covers : AreOfHomes (layout.homes key) answers → (d : Dot) (a : Answer) → Contains answers a → covers_at (world_after (take since steps)) key d a.home a.home ≡ true →
        covers (rows_of answers) d ≡ true
    answer_covers homes d a h own =
        let k = a.at - 1 in
        let is = All-contains (IsAnswer steps) answers a get.each_is h in
        let later = All-contains (λ a. since < a.at) answers a get.each_later h in
        let key_is = All-contains (λ a. a.key ≡ key) answers a get.each_key h in
        let itself = (All-contains (λ a. (is_home (layout.homes key) a.home ≡ true) × (a.holder ≡ a.home)) answers a homes h).1 in
        let c = covering_from (world_after (take k steps)) key d a.home a.home (own_later since k (omega arith) key d a.home own) in
        let stands = stands_in (world_after (take k steps)) a.home a.home key c.version c.stands in
        any_from (λ v. in_history v d) (rows_of answers) c.version
        (rows_in answers a c.version h
        ((is.is_row c.version).1
        (subst (λ j. Contains (row_at (world_after (take k steps)) a.holder a.home j) c.version) (sym key_is)
        (subst (λ p. Contains (row_at (world_after (take k steps)) p a.home key) c.version) (sym itself) stands))))
        c.reaches

    -- what some homes covered for themselves, a later get of enough homes themselves shows
    shown : AreOfHomes (layout.homes key) answers → length (layout.homes key) ≤ layout.count → (d : Dot) (took : List ℕ) →
        CoverThemselves (world_after (take since steps)) key d took → layout.count < r + length took → covers (newest (rows_of answers)) d ≡ true
    shown homes few d took have enough =
        newest_covers (world_after steps).versions (log_sound layout steps legal).ordered key (rows_of answers) answers_made d
        (answer_covers homes d a.item a.in_list (ap (λ h. covers_at then key d h h) a.gives ∙ own both.number both.in_first))
      where
        then : World
        then = world_after (take since steps)

        own : (h : ℕ) → Contains took h → covers_at then key d h h ≡ true
        own h in_took = All-contains (λ h. CoversAt then key d h h) took h have.1 in_took

        rs : List ℕ
        rs = map (λ a. a.home) answers

        both : Shared took rs
        both =
            let read_from : length rs ≡ r = length-map answers (λ a. a.home) ∙ get.count_is in
            shared took rs (layout.homes key) have.0 get.homes_distinct
            (λ h in_took. home_in key h (cover_home layout then (log_sound layout (take since steps) (front_legal since)) key d h h (own h in_took)))
            (λ h in_rs.
            let a = map_from (λ a. a.home) answers h in_rs in
            subst (Contains (layout.homes key)) a.gives
            (home_in key a.item.home (All-contains (λ a. (is_home (layout.homes key) a.home ≡ true) × (a.holder ≡ a.home)) answers a.item homes a.in_list).0))
            (omega arith)

        a : Mapped (λ a. a.home) answers both.number
        a = map_from (λ a. a.home) answers both.number both.in_second

    -- where the key was settled, the homes of an ack's cover covered it for themselves
    settled_answer : AreOfHomes (layout.homes key) answers → length (layout.homes key) ≤ layout.count → IsSettled (world_after (take since steps)) key → (d : Dot) (w : ℕ) →
        HasCover layout (world_after (take since steps)) key d w → layout.count < r + w → covers (newest (rows_of answers)) d ≡ true
    settled_answer homes few settled d w has enough =
        let many : length took ≡ w = length-map has.places (λ p. p.home) ∙ has.is_cover.count_is in
        shown homes few d took
        (has.is_cover.homes_distinct, All-weaker (Contains took) (λ h. CoversAt then key d h h) own took (All-contains_itself took))
        (subst (λ m. layout.count < r + m) (sym many) enough)
      where
        then : World
        then = world_after (take since steps)

        took : List ℕ
        took = map (λ p. p.home) has.places

        own : (h : ℕ) → Contains took h → covers_at then key d h h ≡ true
        own h in_took =
            let p = map_from (λ p. p.home) has.places h in_took in
            let c : covers_at then key d p.item.holder p.item.home ≡ true =
            All-contains (λ p. covers_at then key d p.holder p.home ≡ true) has.places p.item has.is_cover.each_covers p.in_list in
            let v = covering_from then key d p.item.home p.item.holder c in
            let itself = settled p.item.holder p.item.home v.version.dot v.stands.is_held in
            (λ i. covers_at then key d ((sym p.gives ∙ sym itself) i) (sym p.gives i)) ∙ c

  -- where a get covers a version, none that precedes it is among those that the get gives
  pub stays_away : (v : Version) → Contains (world_after steps).versions v → (r since : ℕ) (answers : List Answer) → MatchesLog steps v.key r since answers →
      covers (newest (rows_of answers)) v.dot ≡ true → All (λ u. precedes u v ≡ false) (newest (rows_of answers))
  stays_away v made r since answers get c =
      let vs = rows_of answers in
      All-weaker (Contains (newest vs)) (λ u. precedes u v ≡ false)
      (λ u h.
      ⊎_elim
      (λ before.
      absurd
      (replaced (world_after steps).versions (log_sound layout steps legal).ordered vs v (answers_made v.key r since answers get) made
      (all_cover vs v.dot c) u before h))
      (λ not_before. not_before)
      (cases_Bool (precedes u v)))
      (newest vs) (All-contains_itself (newest vs))

  -- what a get of homes themselves shows, a later get that these homes answer shows
  pub get_grows : (key : List ℕ) (q before : ℕ) (first : List Answer) → MatchesLog steps key q before first → AreOfHomes (layout.homes key) first →
      (r since : ℕ) (later : List Answer) → MatchesLog steps key r since later → AreOfHomes (layout.homes key) later → AnswerAgain first since later →
      (d : Dot) → covers (newest (rows_of first)) d ≡ true → covers (newest (rows_of later)) d ≡ true
  get_grows key q before first one one_homes r since later two two_homes again d c =
      let f = any_gives (λ v. in_history v d) (rows_of first) (all_cover (rows_of first) d c) in
      let from = rows_from first f.item f.in_list in
      let a = from.answer in
      let has = All-contains (λ a. (a.at ≤ since) × Contains (map (λ b. b.home) later) a.home) first a again from.in_list in
      let m = map_from (λ b. b.home) later a.home has.1 in
      let b = m.item in
      let b_later = All-contains (λ b. since < b.at) later b two.each_later m.in_list in
      let itself : (xs : List Answer) → AreOfHomes (layout.homes key) xs → (x : Answer) → Contains xs x → x.holder ≡ x.home =
      λ xs homes x h. (All-contains (λ a. (is_home (layout.homes key) a.home ≡ true) × (a.holder ≡ a.home)) xs x homes h).1 in
      let key_is : (q before : ℕ) (xs : List Answer) → MatchesLog steps key q before xs → (x : Answer) → Contains xs x → x.key ≡ key =
      λ q before xs get x h. All-contains (λ a. a.key ≡ key) xs x get.each_key h in
      let covered : covers b.row d ≡ true =
      grows a b (All-contains (IsAnswer steps) first a one.each_is from.in_list) (All-contains (IsAnswer steps) later b two.each_is m.in_list)
      (itself first one_homes a from.in_list) (itself later two_homes b m.in_list) (sym m.gives)
      (key_is q before first one a from.in_list ∙ sym (key_is r since later two b m.in_list))
      (omega (arith, has.0, b_later)) d
      (any_from (λ v. in_history v d) a.row f.item from.in_row f.passes) in
      let g = any_gives (λ v. in_history v d) b.row covered in
      newest_covers (world_after steps).versions (log_sound layout steps legal).ordered key (rows_of later) (answers_made key r since later two) d
      (any_from (λ v. in_history v d) (rows_of later) g.item (rows_in later b g.item m.in_list g.in_list) g.passes)

-- the homes of a key are at most n
few_homes : (ring : Tokens) (n : ℕ) (key : List ℕ) → length ((layout_of ring n).homes key) ≤ (layout_of ring n).count
few_homes ring n key = omega (arith, length-take n (preference_of ring key))

pub settled_get : (ring : Tokens) (n : ℕ) (steps : List Step) → IsLegal (layout_of ring n) steps → (key : List ℕ) (since : ℕ) →
    IsSettled (world_after (take since steps)) key → (d : Dot) (w : ℕ) →
    Contains (world_after (take since steps)).acks (record { key = key; dot = d; w = w }) →
    (r : ℕ) (answers : List Answer) → MatchesLog steps key r since answers → AreOfHomes (homes_of ring n key) answers → n < r + w →
    covers (newest (rows_of answers)) d ≡ true
settled_get ring n steps legal key since settled d w acked r answers get homes enough =
    let covered = acks_covered (layout_of ring n) (take since steps) (front_legal (layout_of ring n) steps legal since) in
    let has = All-contains (λ a. HasCover (layout_of ring n) (world_after (take since steps)) a.key a.dot a.w) (world_after (take since steps)).acks
    (record { key = key; dot = d; w = w }) covered acked in
    settled_answer (layout_of ring n) steps legal key r since answers get homes (few_homes ring n key) settled d w has enough

pub homes_show : (ring : Tokens) (n : ℕ) (steps : List Step) → IsLegal (layout_of ring n) steps → (key : List ℕ) (since : ℕ) (d : Dot) (took : List ℕ) →
    CoverThemselves (world_after (take since steps)) key d took →
    (r : ℕ) (answers : List Answer) → MatchesLog steps key r since answers → AreOfHomes (homes_of ring n key) answers → n < r + length took →
    covers (newest (rows_of answers)) d ≡ true
homes_show ring n steps legal key since d took have r answers get homes enough =
    shown (layout_of ring n) steps legal key r since answers get homes (few_homes ring n key) d took have enough
