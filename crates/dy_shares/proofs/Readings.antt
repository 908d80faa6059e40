-- What sessions are sure to read: the receipts that an ack spent say which homes covered it themselves, and a get's since is no less than all that was told before it.
use Rattle.std.proofs.Common.{◌≡◌, ◌++◌, ◌∷◌, [], ◌+◌, ◌-◌, ◌<◌, ◌≤◌, List, ℕ, Bool, zero, suc, true, false, cond, Some, length, map, take, filter, nat_eq, sym, ◌∙◌, ap, subst, ⊎_elim, arith}
use Rattle.std.specs.List.{All, AllByRecursion, Contains, IsDistinct, slice_get}
use Rattle.std.proofs.lemmas.Bool.{eqb-true, or_cases}
use Rattle.std.proofs.lemmas.List.{append-nil, append_assoc}
use Rattle.std.proofs.lemmas.List.Elements.{All-contains, All-contains_itself, All-weaker}
use Rattle.dy_dots.specs.declared.dots.Dot.{Dot}
use Rattle.dy_siblings.specs.Siblings.{covers, newest}
use Rattle.dy_siblings.specs.Versions.{precedes}
use Rattle.dy_siblings.specs.declared.versions.Version.{Version}
use Rattle.dy_siblings.proofs.Members.{filter_from, in_cases, in_head, in_tail, map_from, not_in_nil}
use Rattle.dy_ring.specs.Rings.{Tokens}
use Rattle.dy_core.specs.Worlds.{World, layout_of}
use Rattle.dy_core.specs.Covers.{CoverThemselves, CoversAt, covers_at}
use Rattle.dy_core.specs.Logs.{Answer, AnswerAgain, IsLegal, MatchesLog, rows_of, world_after}
use Rattle.dy_core.specs.declared.steps.Step.{Step}
use Rattle.dy_core.proofs.GetsOfHomes.{get_grows, homes_show, stays_away}
use Rattle.dy_shares.specs.declared.entries.Entry.{Entry}
use Rattle.dy_shares.specs.Shares.{AckTold, AreInTurn, AreSpent, AreSpentFor, GetMatches, GetTold, IsAckSpent, IsInTurn, IsOfHomes, IsReceipt, ReceiptParts, SessionBelongsTo, SessionPart, answer_numbers, greatest, own_homes, steps_of}
use Rattle.dy_shares.proofs.Sessions.{greatest-append}

-- an item at a number is one of the list
in_at : {X : Type 0} (xs : List X) (i : ℕ) (x : X) → slice_get xs i ≡ Some x → Contains xs x
in_at [] i x e = absurd (cc)
in_at (y ∷ xs) zero x e = let s : y ≡ x = cc in subst (Contains (y ∷ xs)) s (in_head y xs)
in_at (y ∷ xs) (suc i) x e = in_tail y x xs (in_at xs i x e)

spent_at : (steps : List Step) (acks : List AckTold) (spent : List (List ReceiptParts)) → AreSpent steps acks spent →
    (i : ℕ) (t : AckTold) (rs : List ReceiptParts) → slice_get acks i ≡ Some t → slice_get spent i ≡ Some rs → AreSpentFor steps t rs
spent_at steps [] spent all i t rs e f = absurd (cc)
spent_at steps (a ∷ acks) [] all i t rs e f = absurd all
spent_at steps (a ∷ acks) (x ∷ spent) all zero t rs e f =
    let s : a ≡ t = cc in
    let z : x ≡ rs = cc in
    subst (λ y. AreSpentFor steps y rs) s (subst (AreSpentFor steps a) z all.0)
spent_at steps (a ∷ acks) (x ∷ spent) all (suc i) t rs e f = spent_at steps acks spent all.1 i t rs e f

abbrev is_own : ReceiptParts → Bool
is_own r = nat_eq r.holder r.home

own_all : (P : ℕ → Type 0) (rs : List ReceiptParts) → AllByRecursion P (map (λ r. r.home) rs) → AllByRecursion P (own_homes rs)
own_all P [] all = tt
own_all P (r ∷ rs) all = go (is_own r) (own_all P rs all.1)
  where
    go : (b : Bool) → AllByRecursion P (own_homes rs) → AllByRecursion P (map (λ r. r.home) (cond b (r ∷ filter is_own rs) (filter is_own rs)))
    go true rest = (all.0, rest)
    go false rest = rest

own_distinct : (rs : List ReceiptParts) → IsDistinct nat_eq (map (λ r. r.home) rs) → IsDistinct nat_eq (own_homes rs)
unfolding IsDistinct
own_distinct [] d = tt
own_distinct (r ∷ rs) d = go (is_own r) (own_all (λ y. nat_eq r.home y ≡ false) rs d.0) (own_distinct rs d.1)
  where
    go : (b : Bool) → AllByRecursion (λ y. nat_eq r.home y ≡ false) (own_homes rs) → IsDistinct nat_eq (own_homes rs) →
        IsDistinct nat_eq (map (λ r. r.home) (cond b (r ∷ filter is_own rs) (filter is_own rs)))
    go true apart rest = (apart, rest)
    go false apart rest = rest

-- the homes whose own receipts were spent covered the dot for themselves before the ack
took : (steps : List Step) (t : AckTold) (rs : List ReceiptParts) → AreSpentFor steps t rs → CoverThemselves (world_after (take (t.at - 1) steps)) t.key t.dot (own_homes rs)
took steps t rs is =
    (own_distinct rs is.make.homes_distinct, All-weaker (Contains (own_homes rs)) (λ h. CoversAt w t.key t.dot h h) own (own_homes rs) (All-contains_itself (own_homes rs)))
  where
    w : World
    w = world_after (take (t.at - 1) steps)

    own : (h : ℕ) → Contains (own_homes rs) h → covers_at w t.key t.dot h h ≡ true
    own h in_own =
        let m = map_from (λ (r : ReceiptParts). r.home) (filter is_own rs) h in_own in
        let x = m.item in
        let f = filter_from is_own rs x m.in_list in
        let itself = eqb-true x.holder x.home f.1 in
        let of = All-contains (λ r. (r.key ≡ t.key) × (r.dot ≡ t.dot)) rs x is.make.of_dot f.0 in
        let moved : covers_at w x.key x.dot x.home x.home ≡ true =
        ⊎_elim
        (λ c. (λ i. covers_at w x.key x.dot (sym itself i) x.home) ∙ c)
        (λ c. c)
        (or_cases (covers_at w x.key x.dot x.holder x.home) (covers_at w x.key x.dot x.home x.home)
        (All-contains (IsReceipt (take (t.at - 1) steps)) rs x is.hold f.0)) in
        (λ i. covers_at w (sym of.0 i) (sym of.1 i) (sym m.gives i) (sym m.gives i)) ∙ moved

-- an ack that was told is no later than the greatest of those told
ack_below : (acks : List AckTold) (k i : ℕ) (t : AckTold) → slice_get acks i ≡ Some t → i < k → t.at ≤ greatest (map (λ a. a.at) (take k acks))
ack_below [] k i t e lt = absurd (cc)
ack_below (a ∷ acks) zero i t e lt = absurd (omega (arith, lt))
ack_below (a ∷ acks) (suc k) zero t e lt = let s : a ≡ t = cc in let at : a.at ≡ t.at = ap (λ (x : AckTold). x.at) s in omega (arith, at)
ack_below (a ∷ acks) (suc k) (suc i) t e lt = let rest = ack_below acks k i t e (omega (arith, lt)) in omega (arith, rest)

answer_below : (xs : List Answer) (a : Answer) → Contains xs a → a.at ≤ greatest (map (λ x. x.at) xs)
answer_below [] a h = absurd (not_in_nil a h)
answer_below (x ∷ xs) a h =
    ⊎_elim
    (λ same. let at : a.at ≡ x.at = ap (λ (y : Answer). y.at) same in omega (arith, at))
    (λ later. let rest = answer_below xs a later in omega (arith, rest))
    (in_cases x a xs h)

-- and so is an answer of a get that was told
get_below : (gs : List GetTold) (k i : ℕ) (f : GetTold) → slice_get gs i ≡ Some f → i < k → (a : Answer) → Contains f.answers a → a.at ≤ greatest (answer_numbers (take k gs))
get_below [] k i f e lt a h = absurd (cc)
get_below (g ∷ gs) zero i f e lt a h = absurd (omega (arith, lt))
get_below (g ∷ gs) (suc k) zero f e lt a h =
    let s : g ≡ f = cc in
    let here = answer_below g.answers a (subst (λ (x : GetTold). Contains x.answers a) (sym s) h) in
    omega (arith, here, greatest-append (map (λ x. x.at) g.answers) (answer_numbers (take k gs)))
get_below (g ∷ gs) (suc k) (suc i) f e lt a h =
    let rest = get_below gs k i f e (omega (arith, lt)) a h in
    omega (arith, rest, greatest-append (map (λ x. x.at) g.answers) (answer_numbers (take k gs)))

-- a get stands where it was told, behind those before it
turn_at : (acks : List AckTold) (before gs : List GetTold) → AreInTurn acks before gs → (j : ℕ) (g : GetTold) → slice_get gs j ≡ Some g → IsInTurn acks (before ++ take j gs) g
turn_at acks before [] all j g e = absurd (cc)
turn_at acks before (x ∷ gs) all zero g e =
    let s : x ≡ g = cc in
    subst (IsInTurn acks (before ++ [])) s (subst (λ b. IsInTurn acks b x) (sym (append-nil before)) all.0)
turn_at acks before (x ∷ gs) all (suc j) g e =
    subst (λ b. IsInTurn acks b g) (append_assoc before (x ∷ []) (take j gs)) (turn_at acks (before ++ x ∷ []) gs all.1 j g e)

record Standing (acks : List AckTold) (g : GetTold) : Type 0 where
  before : List GetTold
  in_turn : IsInTurn acks before g

turn_of : (acks : List AckTold) (before gs : List GetTold) → AreInTurn acks before gs → (g : GetTold) → Contains gs g → Standing acks g
turn_of acks before [] all g h = absurd (not_in_nil g h)
turn_of acks before (x ∷ gs) all g h =
    ⊎_elim
    (λ same. subst (Standing acks) (sym same) (record { before = before; in_turn = all.0 }))
    (λ later. turn_of acks (before ++ x ∷ []) gs all.1 g later)
    (in_cases x g gs h)

module _ (ring : Tokens) (n r : ℕ) (log : List Entry) (legal : IsLegal (layout_of ring n) (steps_of log)) where
  -- a get that a session was told matches the log, of each key that all its answers are of, and from each earlier since
  matches : (s : SessionPart) → SessionBelongsTo log r s → (g : GetTold) → Contains s.gets g → (since : ℕ) → since ≤ g.since →
      (key : List ℕ) → All (λ a. a.key ≡ key) g.answers → MatchesLog (steps_of log) key r since g.answers
  matches s belongs g h since le key of =
      let m = (All-contains (GetMatches (steps_of log) r) s.gets g belongs.gets_match h).1 in
      record {
        count_is = m.count_is;
        each_is = m.each_is;
        each_later = All-weaker (λ a. g.since < a.at) (λ a. since < a.at) (λ a lt. omega (arith, lt, le)) g.answers m.each_later;
        each_key = of;
        homes_distinct = m.homes_distinct;
      }

  module _ (writer : SessionPart) (writes : SessionBelongsTo log r writer) (i : ℕ) (t : AckTold) (spent : List ReceiptParts) (is : IsAckSpent writer i t spent) where
    pub read_written : (reader : SessionPart) → SessionBelongsTo log r reader → (g : GetTold) → Contains reader.gets g → t.at ≤ g.since →
        IsOfHomes ring n t.key g → n < r + length (own_homes spent) → covers (newest (rows_of g.answers)) t.dot ≡ true
    read_written reader reads g h le of enough =
        let for = spent_at (steps_of log) writer.acks writer.spent writes.spent_are i t spent is.ack_is is.spent_is in
        homes_show ring n (steps_of log) legal t.key (t.at - 1) t.dot (own_homes spent) (took (steps_of log) t spent for)
        r g.answers (matches reader reads g h (t.at - 1) (omega (arith, le)) t.key of.0) of.1 enough

    pub read_own : (g : GetTold) → Contains writer.gets g → i < g.acks → IsOfHomes ring n t.key g → n < r + length (own_homes spent) →
        covers (newest (rows_of g.answers)) t.dot ≡ true
    read_own g h before of enough =
        let turn = turn_of writer.acks [] writer.gets writes.in_turn g h in
        let below = ack_below writer.acks g.acks i t is.ack_is before in
        read_written writer writes g h (omega (arith, turn.in_turn.since_is, below)) of enough

    pub written_away : (v : Version) → Contains (world_after (steps_of log)).versions v → v.key ≡ t.key → v.dot ≡ t.dot →
        (reader : SessionPart) → SessionBelongsTo log r reader → (g : GetTold) → Contains reader.gets g → t.at ≤ g.since →
        IsOfHomes ring n t.key g → n < r + length (own_homes spent) → All (λ u. precedes u v ≡ false) (newest (rows_of g.answers))
    written_away v made key_is dot_is reader reads g h le of enough =
        stays_away (layout_of ring n) (steps_of log) legal v made r g.since g.answers
        (matches reader reads g h g.since (omega arith) v.key (subst (λ k. All (λ a. a.key ≡ k) g.answers) (sym key_is) of.0))
        (ap (covers (newest (rows_of g.answers))) dot_is ∙ read_written reader reads g h le of enough)

  pub read_again : (first : SessionPart) → SessionBelongsTo log r first → (f : GetTold) → Contains first.gets f →
      (later : SessionPart) → SessionBelongsTo log r later → (g : GetTold) → Contains later.gets g →
      (key : List ℕ) → IsOfHomes ring n key f → IsOfHomes ring n key g → AnswerAgain f.answers g.since g.answers →
      (d : Dot) → covers (newest (rows_of f.answers)) d ≡ true → covers (newest (rows_of g.answers)) d ≡ true
  read_again first is_first f in_first later is_later g in_later key f_of g_of again d c =
      get_grows (layout_of ring n) (steps_of log) legal key r f.since f.answers (matches first is_first f in_first f.since (omega arith) key f_of.0) f_of.1
      r g.since g.answers (matches later is_later g in_later g.since (omega arith) key g_of.0) g_of.1 again d c

  pub own_again : (s : SessionPart) → SessionBelongsTo log r s → (i j : ℕ) (f g : GetTold) → slice_get s.gets i ≡ Some f → slice_get s.gets j ≡ Some g → i < j →
      (key : List ℕ) → IsOfHomes ring n key f → IsOfHomes ring n key g → All (λ a. Contains (map (λ b. b.home) g.answers) a.home) f.answers →
      (d : Dot) → covers (newest (rows_of f.answers)) d ≡ true → covers (newest (rows_of g.answers)) d ≡ true
  own_again s belongs i j f g f_at g_at lt key f_of g_of homes d c =
      let turn = turn_at s.acks [] s.gets belongs.in_turn j g g_at in
      let again : AnswerAgain f.answers g.since g.answers =
      All-weaker (Contains f.answers) (λ a. (a.at ≤ g.since) × Contains (map (λ b. b.home) g.answers) a.home)
      (λ a h. (
        (let below = get_below s.gets j i f f_at lt a h in omega (arith, turn.since_is, below)),
        All-contains (λ a. Contains (map (λ b. b.home) g.answers) a.home) f.answers a homes h,
      ))
      f.answers (All-contains_itself f.answers) in
      read_again s belongs f (in_at s.gets i f f_at) s belongs g (in_at s.gets j g g_at) key f_of g_of again d c

  pub covered_away : (v : Version) → Contains (world_after (steps_of log)).versions v → (s : SessionPart) → SessionBelongsTo log r s → (g : GetTold) → Contains s.gets g →
      All (λ a. a.key ≡ v.key) g.answers → covers (newest (rows_of g.answers)) v.dot ≡ true → All (λ u. precedes u v ≡ false) (newest (rows_of g.answers))
  covered_away v made s belongs g h of c =
      stays_away (layout_of ring n) (steps_of log) legal v made r g.since g.answers (matches s belongs g h g.since (omega arith) v.key of) c
