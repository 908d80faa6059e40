-- What a session is told, and its since.
use Rattle.std.proofs.Common.{◌≡◌, ℕ, suc, ◌+◌, ◌-◌, ◌<◌, ◌≤◌, max, List, [], ◌∷◌, ◌++◌, length, length-append, map, take, drop, slice_index_or, refl, sym, ap, ◌∙◌, subst, arith, nat_eq}
use Rattle.std.specs.List.{All, IsDistinct}
use Rattle.std.proofs.lemmas.List.{append-nil, append_assoc, drop-append-le, drop_all, get_or_default, map-append, take-append-le, take_all, take_more}
use Rattle.std.proofs.lemmas.List.Elements.{All-append, All-cons, All-nil}
use mathlib.Core.List.{IsPrefix}
use mathlib.Core.Logic.{dite}
use native.Mathlib.Decide.{ℕ_discrete}
use Rattle.dy_dots.specs.declared.dots.Dot.{Dot}
use Rattle.dy_core.specs.Logs.{Answer, IsAnswer}
use Rattle.dy_core.specs.declared.steps.Step.{Step}
use Rattle.dy_core.specs.declared.steps.Step.TheVariants.{Ack}
use Rattle.dy_shares.specs.declared.entries.Entry.{Entry}
use Rattle.dy_shares.specs.Shares.{steps_of, greatest, answer_numbers, latest_of, since_of, ack_at, AckTold, GetTold, ReceiptParts, SessionPart, GetMatches, IsInTurn, AreInTurn, IsReceipt, AreSpendable, AreSpentFor, AreSpent, with_get, with_ack}
use Rattle.dy_shares.specs.inside.Parts.{IsSessionShare}
use Rattle.dy_shares.proofs.Later.{answer_later, gets_later, spents_later}
use Rattle.dy_shares.proofs.Owners.{steps_of-append, steps_of-length}

pub greatest-append : (xs ys : List ℕ) → greatest (xs ++ ys) ≡ max (greatest xs) (greatest ys)
greatest-append [] ys = omega arith
greatest-append (x ∷ xs) ys = omega (arith, greatest-append xs ys)

numbers-append : (gs hs : List GetTold) → greatest (answer_numbers (gs ++ hs)) ≡ max (greatest (answer_numbers gs)) (greatest (answer_numbers hs))
numbers-append [] hs = omega arith
numbers-append (g ∷ gs) hs =
    let own = map (λ a. a.at) g.answers in
    omega (arith, numbers-append gs hs, greatest-append own (answer_numbers (gs ++ hs)), greatest-append own (answer_numbers gs))

numbers_one : (g : GetTold) → greatest (answer_numbers (g ∷ [])) ≡ greatest (map (λ a. a.at) g.answers)
numbers_one g = ap greatest (append-nil (map (λ a. a.at) g.answers))

-- the since after an ack, and after a get
since_ack : (s : SessionPart) (at : ℕ) (key : List ℕ) (d : Dot) (w : ℕ) (receipts : List ReceiptParts) → since_of (with_ack s at (Ack key d w) receipts) ≡ max (since_of s) at
since_ack s at key d w receipts =
    let acks = ack_at at (Ack key d w) in
    let both = ap greatest (map-append (λ (a : AckTold). a.at) s.acks acks) ∙ greatest-append (map (λ a. a.at) s.acks) (map (λ a. a.at) acks) in
    omega (arith, both)

since_get : (s : SessionPart) (since : ℕ) (answers : List Answer) → since_of (with_get s since answers) ≡ max (since_of s) (greatest (map (λ a. a.at) answers))
since_get s since answers =
    let g : GetTold = record { since = since; answers = answers; acks = length s.acks } in
    omega (arith, numbers-append s.gets (g ∷ []), numbers_one g)

-- one get more, which stands where it was told
turn_push : (acks : List AckTold) (before gs : List GetTold) (g : GetTold) → AreInTurn acks before gs → IsInTurn acks (before ++ gs) g → AreInTurn acks before (gs ++ g ∷ [])
turn_push acks before [] g all is = (subst (λ b. IsInTurn acks b g) (append-nil before) is, tt)
turn_push acks before (h ∷ gs) g all is =
    (all.0, turn_push acks (before ++ h ∷ []) gs g all.1 (subst (λ b. IsInTurn acks b g) (sym (append_assoc before (h ∷ []) gs)) is))

-- each get is behind no more acks than there are
turns_behind : (acks : List AckTold) (before gs : List GetTold) → AreInTurn acks before gs → All (λ b. b.acks ≤ length acks) gs
turns_behind acks before [] all = All-nil (λ b. b.acks ≤ length acks)
turns_behind acks before (g ∷ gs) all = All-cons (λ b. b.acks ≤ length acks) g gs all.0.behind_acks (turns_behind acks (before ++ g ∷ []) gs all.1)

all_below : (xs : List Answer) (n : ℕ) → greatest (map (λ x. x.at) xs) < n → All (λ x. x.at < n) xs
all_below [] n low = All-nil (λ x. x.at < n)
all_below (x ∷ xs) n low = All-cons (λ x. x.at < n) x xs (omega (arith, low)) (all_below xs n (omega (arith, low)))

-- one ack more, which is later than all gets
turn_ack : (acks : List AckTold) (a : AckTold) (before gs : List GetTold) → greatest (answer_numbers gs) < a.at → AreInTurn acks before gs → AreInTurn (acks ++ a ∷ []) before gs
turn_ack acks a before [] low all = tt
turn_ack acks a before (g ∷ gs) low all =
    let both = greatest-append (map (λ x. x.at) g.answers) (answer_numbers gs) in
    let P : AckTold → Type 0 = λ b. All (λ x. x.at < b.at) g.answers in
    let is = all.0 in (
      record {
        behind_acks = omega (arith, is.behind_acks, length-append acks (a ∷ []));
        behind_gets = is.behind_gets;
        since_is = is.since_is ∙ ap (λ xs. latest_of xs before) (sym (take-append-le g.acks acks (a ∷ []) is.behind_acks));
        acks_after = subst (All P) (sym (drop-append-le g.acks acks (a ∷ []) is.behind_acks))
            (All-append P (drop g.acks acks) (a ∷ []) is.acks_after (All-cons P a [] (all_below g.answers a.at (omega (arith, low, both))) (All-nil P)));
      },
      turn_ack acks a (before ++ g ∷ []) gs (omega (arith, low, both)) all.1,
    )

-- receipts for one ack more
spent_push : (steps : List Step) (acks : List AckTold) (spent : List (List ReceiptParts)) (t : AckTold) (receipts : List ReceiptParts) → AreSpent steps acks spent → AreSpentFor steps t receipts
    → AreSpent steps (acks ++ t ∷ []) (spent ++ receipts ∷ [])
spent_push steps [] [] t receipts all is = (is, tt)
spent_push steps [] (rs ∷ spent) t receipts all is = absurd all
spent_push steps (a ∷ acks) [] t receipts all is = absurd all
spent_push steps (a ∷ acks) (rs ∷ spent) t receipts all is = (all.0, spent_push steps acks spent t receipts all.1 is)

spent_step : (log rest : List Step) (acks : List AckTold) (spent : List (List ReceiptParts)) (key : List ℕ) (d : Dot) (w : ℕ) (receipts : List ReceiptParts) → AreSpendable key d w receipts → 0 < length rest
    → All (IsReceipt log) receipts → AreSpent (log ++ rest) acks spent → AreSpent (log ++ rest) (acks ++ ack_at (length log + 1) (Ack key d w)) (spent ++ receipts ∷ [])
spent_step log rest acks spent key d w receipts is some hold all =
    let t : AckTold = record { at = length log + 1; key = key; dot = d; w = w } in
    let before : take (t.at - 1) (log ++ rest) ≡ log =
    ap (λ k. take k (log ++ rest)) (omega arith) ∙ (take-append-le (length log) log rest (omega arith) ∙ take_all (length log) log (omega arith)) in
    spent_push (log ++ rest) acks spent t receipts all (record {
      make = is;
      reached = omega (arith, some, length-append log rest);
      hold = subst (λ ss. All (IsReceipt ss) receipts) (sym before) hold;
    })

-- for each ack something was spent
pub spent_each : (steps : List Step) (acks : List AckTold) (spent : List (List ReceiptParts)) → AreSpent steps acks spent → length spent ≡ length acks
spent_each steps [] [] all = refl
spent_each steps [] (rs ∷ spent) all = absurd all
spent_each steps (a ∷ acks) [] all = absurd all
spent_each steps (a ∷ acks) (rs ∷ spent) all = ap suc (spent_each steps acks spent all.1)

-- a session's share that is told an ack, or a get
pub session_acked : (nodes r index since since_new : ℕ) (front log rest : List Entry) (s : SessionPart) (key : List ℕ) (d : Dot) (w : ℕ) (receipts : List ReceiptParts) → IsSessionShare nodes r index since front s → AreSpendable key d w receipts
    → since_new ≡ max since (length log + 1) → IsPrefix front (log ++ rest) → 0 < length rest → since ≤ length log → All (IsReceipt (steps_of log)) receipts
    → IsSessionShare nodes r index since_new (log ++ rest) (with_ack s (length log + 1) (Ack key d w) receipts)
session_acked nodes r index since since_new front log rest s key d w receipts is by new p some before hold =
    let step = Ack key d w in
    let at : ℕ = length log + 1 in
    let joined = steps_of-append log rest in
    let count = steps_of-length log in
    record {
      seat_is = is.seat_is;
      since_is = new ∙ (ap (λ n. max n at) is.since_is ∙ sym (since_ack s at key d w receipts));
      reached = omega (arith, new, before, some, length-append log rest);
      spent_are = subst (λ ss. AreSpent ss (s.acks ++ ack_at at step) (s.spent ++ receipts ∷ [])) (sym joined)
          (subst (λ n. AreSpent (steps_of log ++ steps_of rest) (s.acks ++ ack_at (n + 1) step) (s.spent ++ receipts ∷ [])) count
          (spent_step (steps_of log) (steps_of rest) s.acks s.spent key d w receipts by (omega (arith, some, steps_of-length rest)) hold
          (subst (λ ss. AreSpent ss s.acks s.spent) joined (spents_later front (log ++ rest) s.acks s.spent p is.spent_are))));
      gets_match = gets_later front (log ++ rest) r s.gets p is.gets_match;
      in_turn = turn_ack s.acks (record { at = at; key = key; dot = d; w = w }) [] s.gets (omega (arith, before, is.since_is)) is.in_turn;
    }

pub session_got : (nodes r index since since_new : ℕ) (front front_new : List Entry) (s : SessionPart) (answers : List Answer) → IsSessionShare nodes r index since front s
    → IsPrefix front front_new → All (IsAnswer (steps_of front_new)) answers → since_new ≡ max since (greatest (map (λ a. a.at) answers)) → since_new ≤ length front_new
    → length answers ≡ r → ((key : List ℕ) × All (λ a. a.key ≡ key) answers) → IsDistinct nat_eq (map (λ a. a.home) answers) → All (λ a. since_of s < a.at) answers
    → IsSessionShare nodes r index since_new front_new (with_get s (since_of s) answers)
session_got nodes r index since since_new front front_new s answers is p are new reached count one_key homes later =
    let g : GetTold = record { since = since_of s; answers = answers; acks = length s.acks } in
    let P : AckTold → Type 0 = λ a. All (λ x. x.at < a.at) answers in
    record {
      seat_is = is.seat_is;
      since_is = new ∙ (ap (λ n. max n (greatest (map (λ a. a.at) answers))) is.since_is ∙ sym (since_get s (since_of s) answers));
      reached = reached;
      spent_are = spents_later front front_new s.acks s.spent p is.spent_are;
      gets_match = All-append (GetMatches (steps_of front_new) r) s.gets (g ∷ [])
          (gets_later front front_new r s.gets p is.gets_match)
          (All-cons (GetMatches (steps_of front_new) r) g [] (one_key.0, record { count_is = count; each_is = are; each_later = later; each_key = one_key.1; homes_distinct = homes }) (All-nil (GetMatches (steps_of front_new) r)));
      in_turn = turn_push s.acks [] s.gets g is.in_turn
          (record {
            behind_acks = omega arith;
            behind_gets = turns_behind s.acks [] s.gets is.in_turn;
            since_is = ap (λ xs. latest_of xs s.gets) (sym (take_all (length s.acks) s.acks (omega arith)));
            acks_after = subst (All P) (sym (drop_all (length s.acks) s.acks (omega arith))) (All-nil P);
          });
    }

-- one answer more is one of a front that begins with both fronts
pub learnt_each : (before seen_front after : List Entry) (seens : List Answer) (i : ℕ) (a : Answer) → IsPrefix before after → IsPrefix seen_front after
    → ((k : ℕ) (d : Answer) → k < i → IsAnswer (steps_of before) (slice_index_or seens k d)) → IsAnswer (steps_of seen_front) a → i < length seens → a ≡ slice_index_or seens i a
    → (k : ℕ) (d : Answer) → k < i + 1 → IsAnswer (steps_of after) (slice_index_or seens k d)
learnt_each before seen_front after seens i a p q each is within here k d low =
    dite (ℕ_discrete k i)
    (λ same. subst (IsAnswer (steps_of after)) (here ∙ (get_or_default seens i a d within ∙ ap (λ j. slice_index_or seens j d) (sym same))) (answer_later seen_front after a q is))
    (λ apart. answer_later before after (slice_index_or seens k d) p (each k d (omega arith)))

pub learnt_since : (seens : List Answer) (i since latest new : ℕ) (a : Answer) → i < length seens → a ≡ slice_index_or seens i a
    → latest ≡ max since (greatest (map (λ x. x.at) (take i seens))) → new ≡ max latest a.at → new ≡ max since (greatest (map (λ x. x.at) (take (i + 1) seens)))
learnt_since seens i since latest new a within here was is =
    let at = λ (x : Answer). x.at in
    let more : take (i + 1) seens ≡ take i seens ++ a ∷ [] = take_more seens i a within ∙ ap (λ x. take i seens ++ x ∷ []) (sym here) in
    let numbers : greatest (map at (take (i + 1) seens)) ≡ max (greatest (map at (take i seens))) (greatest (a.at ∷ [])) =
    ap (λ xs. greatest (map at xs)) more ∙ (ap greatest (map-append at (take i seens) (a ∷ [])) ∙ greatest-append (map at (take i seens)) (a.at ∷ [])) in
    omega (arith, numbers, was, is)

pub prefix_on : (xs ys zs : List Entry) → IsPrefix xs ys → IsPrefix ys zs → IsPrefix xs zs
prefix_on xs ys zs p q = (p.0 ++ q.0, sym (append_assoc xs p.0 q.0) ∙ (ap (λ l. l ++ q.0) p.1 ∙ q.1))
