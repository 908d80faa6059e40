-- What a sheet of asks keeps, step by step. An answer that is handed on takes from what is left of
-- its ask, so the answers read and those left are never more than two an ask; and what is left of
-- an ask that said more than that nothing came is none.
use Rattle.std.proofs.Common.{◌≡◌, ◌++◌, ◌<◌, ◌+◌, ◌*◌, List, [], ◌∷◌, ℕ, zero, suc, Option, Some}
use Rattle.std.proofs.Common.{None, length, map, get_or, refl, sym, ◌∙◌, ap, subst, arith}
use Rattle.std.proofs.Common.{length-append, inl, inr}
use Rattle.std.proofs.Math.ListN.{set}
use Rattle.std.proofs.Math.Seq.{get_or-append_seam}
use Rattle.std.proofs.lemmas.List.{map-append, get_or-set_other, get_or-set_same}
use Rattle.std.proofs.lemmas.List.{get_or_append_left, length-set}
use Rattle.std.proofs.lemmas.Bool.{cases_lt, cases_eq}
use Rattle.std.proofs.lemmas.List.Sums.{sum_by-set, sum_by_push}
use Rattle.std.proofs.lemmas.List.Elements.{All-push, Contains-append_left, Contains-push}
use Rattle.std.specs.List.{All, Contains, slice_get}
use Rattle.dy_node.specs.declared.asks.Answer.{Answer}
use Rattle.dy_node.specs.declared.asks.Answer.TheVariants as answer
use Rattle.dy_transport.specs.Asking.{FitsWhat}
use Rattle.dy_transport.specs.Told.{Answers, IsAwaited}
use Rattle.dy_transport.specs.declared.asked.Asked.{Asked}
use Rattle.dy_transport.specs.declared.asked.What.{What}
use Rattle.dy_transport.specs.declared.asked.What.TheVariants as what
use Rattle.dy_transport.specs.declared.replies.Reply.{Reply}
use Rattle.dy_sheets.specs.Kept.{IsKept, dots_in}
use Rattle.dy_sheets.specs.declared.kept.Kept.{Kept}
use Rattle.dy_sheets.specs.declared.kept.Kept.TheVariants.{Store, Fetch}
use Rattle.dy_sheets.specs.declared.sent.Sent.{Sent}
use Rattle.dy_sheets.specs.Sheets.{AllSent, FitsAnyKept, FitsKept, FitsNothing, FitsSent}
use Rattle.dy_sheets.specs.Sheets.{IsSent, IsSheet, SheetParts}
use Rattle.dy_sheets.proofs.Named.{receipts_named}

-- an ask that has fewer left, or had, has an answer among those read
gives_each : (numbers left : List ℕ) (k n after count : ℕ) →
    ((j : ℕ) → j < count → (get_or left j 0 ≡ 2 → ⊥) → Contains numbers j) →
    k < count → (get_or (set left n after) k 0 ≡ 2 → ⊥) → Contains (numbers ++ n ∷ []) k
gives_each numbers left k n after count h lt_k few = elim (cases_eq k n) [
  | inl e ↦
      (let P : ℕ → Type 0 = λ x. Contains (numbers ++ n ∷ []) x in
      subst P (sym e) (Contains-push numbers n))
  | inr ne ↦
      Contains-append_left numbers (n ∷ []) k
      (h k lt_k (λ two. few (get_or-set_other left n k after 0 ne ∙ two)))
]

-- a new ask has two left
asks_each : (numbers left : List ℕ) (k count : ℕ) → length left ≡ count →
    ((j : ℕ) → j < count → (get_or left j 0 ≡ 2 → ⊥) → Contains numbers j) →
    k < count + 1 → (get_or (left ++ 2 ∷ []) k 0 ≡ 2 → ⊥) → Contains numbers k
asks_each numbers left k count e h lt few = elim (cases_lt k (length left)) [
  | inl l ↦ h k (omega arith) (λ two. few (get_or_append_left left (2 ∷ []) 0 k l ∙ two))
  | inr ge ↦
      absurd (few (let P : ℕ → Type 0 = λ j. get_or (left ++ 2 ∷ []) j 0 ≡ 2 in
      let here : length left ≡ k = omega arith in
      subst P here (get_or-append_seam left 2 [] 0)))
]

-- a number below the next one is another
not_next : (n m k : ℕ) → n < m → k ≡ m → n ≡ k → ⊥
not_next n m k lt next same = absurd (omega arith)

-- an element lies at its place
pub at_place : {X : Type 0} (xs : List X) (k : ℕ) (x : X) → k < length xs → x ≡ get_or xs k x →
    slice_get xs k ≡ Some x
at_place [] k x lt e = absurd (omega (arith, lt))
at_place (y ∷ ys) zero x lt e = ap Some (sym e)
at_place (y ∷ ys) (suc k) x lt e = at_place ys k x (omega (arith, lt)) e

AllSent-push : (asks : List Asked) (sent : List Sent) (a : Asked) (s : Sent) →
    AllSent asks sent → IsSent a s → AllSent (asks ++ a ∷ []) (sent ++ s ∷ [])
AllSent-push [] [] a s h p = (p, tt)
AllSent-push [] (t ∷ sent) a s h p = absurd h
AllSent-push (b ∷ asks) [] a s h p = absurd h
AllSent-push (b ∷ asks) (t ∷ sent) a s h p = (h.0, AllSent-push asks sent a s h.1 p)

AllSent-at : (asks : List Asked) (sent : List Sent) (k : ℕ) (s d : Sent) →
    AllSent asks sent → k < length sent → s ≡ get_or sent k d →
    (a : Asked) × (slice_get asks k ≡ Some a) × IsSent a s
AllSent-at [] [] k s d h lt e = absurd (omega arith)
AllSent-at [] (t ∷ sent) k s d h lt e = absurd h
AllSent-at (b ∷ asks) [] k s d h lt e = absurd h
AllSent-at (b ∷ asks) (t ∷ sent) zero s d h lt e =
    (b, refl, (let P : Sent → Type 0 = λ x. IsSent b x in subst P (sym e) h.0))
AllSent-at (b ∷ asks) (t ∷ sent) (suc k) s d h lt e =
    AllSent-at asks sent k s d h.1 (omega arith) e

module _ {J : Type 0} where
  abbrev numbered : Reply J → ℕ
  numbered r = r.number

  -- an answer to the ask of this number is that nothing came
  abbrev SaidNothing : ℕ → Reply J → Type 0
  SaidNothing number r = r.number ≡ number → r.answer.value ≡ answer.NoAnswer

  -- what fits what was kept fits what was asked
  fits_asked : (to home : ℕ) (w : What) (k : Kept) (x : Answer J) →
      IsKept w (Some k) → FitsKept to home k x → FitsWhat to home w x
  fits_asked to home (what.Store row) (Store key dots) (answer.Stored receipts) is f =
      f ∙ receipts_named row.value.versions key (dots_in dots) to home is
  fits_asked to home (what.Store row) (Store key dots) (answer.Rows seen) is f = f
  fits_asked to home (what.Store row) (Fetch key since) x is f = absurd is
  fits_asked to home (what.Fetch key since) (Store same dots) x is f = absurd is
  fits_asked to home (what.Fetch key since) (Fetch same at) (answer.Stored receipts) is f = f
  fits_asked to home (what.Fetch key since) (Fetch same at) (answer.Rows seen) is f =
      record {
        holder_is = f.holder_is;
        home_is = f.home_is;
        key_is = f.key_is ∙ sym is.0;
        later = let e = is.1 in let l = f.later in omega arith;
      }
  fits_asked to home (what.Store row) (Store key dots) answer.Down is f = tt
  fits_asked to home (what.Store row) (Store key dots) answer.NoAnswer is f = tt
  fits_asked to home (what.Store row) (Store key dots) (answer.Refused r) is f = tt
  fits_asked to home (what.Fetch key since) (Fetch same at) answer.Down is f = tt
  fits_asked to home (what.Fetch key since) (Fetch same at) answer.NoAnswer is f = tt
  fits_asked to home (what.Fetch key since) (Fetch same at) (answer.Refused r) is f = tt

  -- what fits nothing fits whatever was asked
  fits_nothing : (to home : ℕ) (w : What) (x : Answer J) → FitsNothing x → FitsWhat to home w x
  fits_nothing to home w (answer.Stored receipts) f = absurd f
  fits_nothing to home w (answer.Rows seen) f = absurd f
  fits_nothing to home (what.Store row) answer.Down f = tt
  fits_nothing to home (what.Store row) answer.NoAnswer f = tt
  fits_nothing to home (what.Store row) (answer.Refused r) f = tt
  fits_nothing to home (what.Fetch key since) answer.Down f = tt
  fits_nothing to home (what.Fetch key since) answer.NoAnswer f = tt
  fits_nothing to home (what.Fetch key since) (answer.Refused r) f = tt

  fits_what : (to home : ℕ) (w : What) (kept : Option Kept) (x : Answer J) →
      IsKept w kept → FitsAnyKept to home kept x → FitsWhat to home w x
  fits_what to home w None x is f = fits_nothing to home w x f
  fits_what to home w (Some k) x is f = fits_asked to home w k x is f

  fits_sent : (a : Asked) (s : Sent) (x : Answer J) → IsSent a s → FitsSent s x →
      FitsWhat a.to a.home a.what x
  fits_sent a s x h f =
      let P : ℕ → Type 0 = λ to. FitsWhat to a.home a.what x in
      let Q : ℕ → Type 0 = λ home. FitsWhat s.to home a.what x in
      subst P (sym h.0) (subst Q (sym h.1) (fits_what s.to s.home a.what s.kept x h.2 f))

  -- an answer to what was kept at that number is one to the ask of that number
  pub answers_sent : (asks : List Asked) (room : ℕ) (replies : List (Reply J))
      (sent : List Sent) (left : List ℕ) (number : ℕ) (s d : Sent) (x : Answer J) →
      IsSheet asks room replies sent left → number < length left → s ≡ get_or sent number d →
      FitsSent s x → Answers asks number s.to s.home x
  answers_sent asks room replies sent left number s d x i lt e f =
      let n = i.left_count in let m = i.sent_count in
      let h : (a : Asked) × (slice_get asks number ≡ Some a) × IsSent a s =
      AllSent-at asks sent number s d i.each_sent (omega arith) e in
      (h.0, h.1, h.2.0, h.2.1, fits_sent h.0 s x h.2 f)

  -- only that nothing came was read of an ask that has an answer left
  pub sheet_awaits : (asks : List Asked) (room : ℕ) (replies : List (Reply J))
      (sent : List Sent) (left : List ℕ) (number : ℕ) →
      IsSheet asks room replies sent left → number < length left → 0 < get_or left number 0 →
      IsAwaited replies number
  sheet_awaits asks room replies sent left number i lt some =
      let n = i.left_count in i.awaited number (omega arith) some

  pub sheet_within : (asks : List Asked) (room : ℕ) (replies : List (Reply J))
      (sent : List Sent) (left : List ℕ) (number : ℕ) →
      IsSheet asks room replies sent left → number < length left → 0 < get_or left number 0 →
      length replies < 2 * length asks
  sheet_within asks room replies sent left number i lt some =
      let s = sum_by-set (λ x. x) left number 0 0 lt in
      let c = i.count in omega (arith, s)

  pub sheet_within_room : (asks : List Asked) (room : ℕ) (replies : List (Reply J))
      (sent : List Sent) (left : List ℕ) (number : ℕ) →
      IsSheet asks room replies sent left → number < length left → 0 < get_or left number 0 →
      length replies < 2 * room
  sheet_within_room asks room replies sent left number i lt some =
      let w : length replies < 2 * length asks =
      sheet_within asks room replies sent left number i lt some in
      let c = i.asks_count in omega arith

  -- an answer more takes one from its ask, or all where it says more than that nothing came
  gives_awaited : (replies : List (Reply J)) (left : List ℕ) (r : Reply J) (after count k : ℕ) →
      ((j : ℕ) → j < count → 0 < get_or left j 0 → IsAwaited replies j) →
      r.number < length left → after < get_or left r.number 0 →
      (0 < after → r.answer.value ≡ answer.NoAnswer) →
      k < count → 0 < get_or (set left r.number after) k 0 → IsAwaited (replies ++ r ∷ []) k
  gives_awaited replies left r after count k h lt less nothing lt_k some =
      elim (cases_eq k r.number) [
        | inl e ↦
            (let P : ℕ → Type 0 = λ j. 0 < get_or (set left r.number after) j 0 in
            let Q : ℕ → Type 0 = λ j. 0 < get_or left j 0 in
            let same = get_or-set_same left r.number after 0 lt in
            let here : 0 < get_or (set left r.number after) r.number 0 = subst P e some in
            let was : 0 < get_or left r.number 0 = omega arith in
            All-push (SaidNothing k) replies r (h k lt_k (subst Q (sym e) was))
            (λ _. nothing (omega (arith, same))))
        | inr ne ↦
            (let other = get_or-set_other left r.number k after 0 ne in
            All-push (SaidNothing k) replies r (h k lt_k (omega (arith, other)))
            (λ is. absurd (ne (sym is))))
      ]

  pub sheet_gives : (asks : List Asked) (room : ℕ) (replies : List (Reply J))
      (sent : List Sent) (left : List ℕ) (r : Reply J) (after : ℕ) →
      IsSheet asks room replies sent left → r.number < length left →
      after < get_or left r.number 0 → (0 < after → r.answer.value ≡ answer.NoAnswer) →
      IsSheet asks room (replies ++ r ∷ []) sent (set left r.number after)
  sheet_gives asks room replies sent left r after i lt less nothing =
      let s = sum_by-set (λ x. x) left r.number after 0 lt in
      let lr : length (replies ++ r ∷ []) ≡ length replies + 1 = length-append replies (r ∷ []) in
      let c = i.count in let n = i.left_count in
      record {
        each_sent = i.each_sent;
        left_count = length-set left r.number after ∙ i.left_count;
        sent_count = i.sent_count;
        each = λ k lt_k few.
            let P : List ℕ → Type 0 = λ ys. Contains ys k in
            subst P (sym (map-append numbered replies (r ∷ [])))
            (gives_each (map numbered replies) left k r.number after (length asks) i.each lt_k
            few);
        awaited = λ k lt_k some.
            gives_awaited replies left r after (length asks) k i.awaited lt less nothing lt_k some;
        known = All-push (λ q. q.number < length asks) replies r i.known (omega arith);
        count = omega (arith, s);
        asks_count = i.asks_count;
      }

  asks_awaited : (replies : List (Reply J)) (left : List ℕ) (k count : ℕ) →
      length left ≡ count → All (λ r. r.number < count) replies →
      ((j : ℕ) → j < count → 0 < get_or left j 0 → IsAwaited replies j) →
      k < count + 1 → 0 < get_or (left ++ 2 ∷ []) k 0 → IsAwaited replies k
  asks_awaited replies left k count e known h lt some = elim (cases_lt k (length left)) [
    | inl l ↦
        (let same = get_or_append_left left (2 ∷ []) 0 k l in
        h k (omega arith) (omega (arith, same)))
    | inr ge ↦
        (let next : k ≡ count = omega arith in
        λ j d lt_j is. absurd (not_next _ count k (known j d lt_j) next is))
  ]

  -- an ask more has two answers left
  pub sheet_asks : (asks : List Asked) (room : ℕ) (replies : List (Reply J))
      (sent : List Sent) (left : List ℕ) (a : Asked) (s : Sent) →
      IsSheet asks room replies sent left → length asks < room → IsSent a s →
      IsSheet (asks ++ a ∷ []) room replies (sent ++ s ∷ []) (left ++ 2 ∷ [])
  sheet_asks asks room replies sent left a s i lt p =
      let la : length (asks ++ a ∷ []) ≡ length asks + 1 = length-append asks (a ∷ []) in
      let ls : length (sent ++ s ∷ []) ≡ length sent + 1 = length-append sent (s ∷ []) in
      let ll : length (left ++ 2 ∷ []) ≡ length left + 1 = length-append left (2 ∷ []) in
      let t = sum_by_push (λ x. x) left 2 in
      let c = i.count in let n = i.left_count in let m = i.sent_count in
      record {
        each_sent = AllSent-push asks sent a s i.each_sent p;
        left_count = omega arith;
        sent_count = omega arith;
        each = λ k lt_k few.
            asks_each (map numbered replies) left k (length asks) n i.each (omega arith) few;
        awaited = λ k lt_k some.
            asks_awaited replies left k (length asks) n i.known i.awaited (omega arith) some;
        known = λ k d lt_k. let h = i.known k d lt_k in omega arith;
        count = omega (arith, t);
        asks_count = omega arith;
      }

  -- where no ask has two answers left, each was answered
  pub sheet_drained : (asks : List Asked) (room : ℕ) (replies : List (Reply J))
      (sent : List Sent) (left : List ℕ) → IsSheet asks room replies sent left →
      ((k : ℕ) → k < length left → get_or left k 0 ≡ 2 → ⊥) →
      (k : ℕ) → k < length asks → Contains (map numbered replies) k
  sheet_drained asks room replies sent left i none k lt =
      let n = i.left_count in i.each k lt (none k (omega arith))

  -- the room is that of what is told
  pub room_left : {k l : SheetParts J} → k ≡ l → length k.told.asks < k.told.room →
      length l.told.asks < l.told.room
  room_left is lt =
      let P : SheetParts J → Type 0 = λ s. length s.told.asks < s.told.room in subst P is lt
