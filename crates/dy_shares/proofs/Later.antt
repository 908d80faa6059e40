-- What was true of a log stays true of a longer one.
use Rattle.std.proofs.Common.{◌≡◌, ℕ, zero, suc, ◌-◌, ◌+◌, ◌<◌, List, [], ◌∷◌, ◌++◌, Some, length, length-append, slice_get, take, get_or, sym, ap, ◌∙◌, subst, ⊎_elim, arith}
use Rattle.std.specs.List.{All, Contains}
use Rattle.std.proofs.lemmas.List.{take-append-le, take_more}
use Rattle.std.proofs.lemmas.List.Elements.{All-contains, All-weaker, Contains-append_cases}
use Rattle.dy_siblings.proofs.Members.{not_in_nil, in_cases}
use Rattle.dy_core.proofs.Keeping.{all_from}
use Rattle.std.proofs.lemmas.Option.{slice_get_within}
use mathlib.Core.List.{IsPrefix}
use Rattle.dy_core.specs.Worlds.{Layout, row_at}
use Rattle.dy_core.specs.Steps.{place_for}
use Rattle.dy_core.specs.Logs.{world_after, IsLegal, Answer, IsAnswer}
use Rattle.dy_core.specs.declared.steps.Step.{Step}
use Rattle.dy_core.specs.declared.steps.Step.TheVariants.{Fetch}
use Rattle.dy_siblings.specs.Siblings.{IsSameRow}
use Rattle.dy_core.proofs.OverLogs.{receipt_stays}
use Rattle.dy_shares.specs.declared.entries.Entry.{Entry}
use Rattle.dy_shares.specs.Shares.{steps_of, ReceiptParts, IsReceipt, AckTold, GetTold, GetMatches, AreSpentFor, AreSpent}
use Rattle.dy_shares.proofs.Owners.{steps_of-append}

got_stays : {X : Type 0} (xs ys : List X) (k : ℕ) (x : X) → slice_get xs k ≡ Some x → slice_get (xs ++ ys) k ≡ Some x
got_stays [] ys k x e = absurd (omega (arith, slice_get_within [] k x e))
got_stays (y ∷ xs) ys zero x e = e
got_stays (y ∷ xs) ys (suc k) x e = got_stays xs ys k x e

-- the steps of a front begin those of the log
pub steps_begin : (front log : List Entry) → (p : IsPrefix front log) → steps_of front ++ steps_of p.0 ≡ steps_of log
steps_begin front log p = sym (steps_of-append front p.0) ∙ ap steps_of p.1

-- a receipt that held at a front holds now
pub receipt_later : (layout : Layout) (front log : List Entry) (r : ReceiptParts) → IsLegal layout (steps_of log) → IsPrefix front log → IsReceipt (steps_of front) r → IsReceipt (steps_of log) r
receipt_later layout front log r legal p holds =
    let is = steps_begin front log p in
    subst (λ ss. IsReceipt ss r) is
    (receipt_stays layout (steps_of front) (steps_of p.0) (subst (IsLegal layout) (sym is) legal) r.key r.dot r.home r.holder holds)

answer_on : (ss more : List Step) (a : Answer) → IsAnswer ss a → IsAnswer (ss ++ more) a
answer_on ss more a is =
    let within = slice_get_within ss (a.at - 1) (Fetch (place_for a.holder a.home) a.key) is.is_fetch in
    let before : take (a.at - 1) (ss ++ more) ≡ take (a.at - 1) ss = take-append-le (a.at - 1) ss more (omega (arith, within)) in
    record {
      from_one = is.from_one;
      is_fetch = got_stays ss more (a.at - 1) (Fetch (place_for a.holder a.home) a.key) is.is_fetch;
      is_row = subst (λ xs. IsSameRow a.row (row_at (world_after xs) a.holder a.home a.key)) (sym before) is.is_row;
    }

-- an answer that a front had the log has now
pub answer_later : (front log : List Entry) (a : Answer) → IsPrefix front log → IsAnswer (steps_of front) a → IsAnswer (steps_of log) a
answer_later front log a p is = subst (λ ss. IsAnswer ss a) (steps_begin front log p) (answer_on (steps_of front) (steps_of p.0) a is)

-- and so with gets
pub get_later : (front log : List Entry) (r : ℕ) (g : GetTold) → IsPrefix front log → GetMatches (steps_of front) r g → GetMatches (steps_of log) r g
get_later front log r g p is = (
  is.0,
  record {
    count_is = is.1.count_is;
    each_is = All-weaker (IsAnswer (steps_of front)) (IsAnswer (steps_of log)) (λ a. answer_later front log a p) g.answers is.1.each_is;
    each_later = is.1.each_later;
    each_key = is.1.each_key;
    homes_distinct = is.1.homes_distinct;
  },
)

pub gets_later : (front log : List Entry) (r : ℕ) (gs : List GetTold) → IsPrefix front log → All (GetMatches (steps_of front) r) gs → All (GetMatches (steps_of log) r) gs
gets_later front log r gs p all = All-weaker (GetMatches (steps_of front) r) (GetMatches (steps_of log) r) (λ g. get_later front log r g p) gs all

-- what was spent for an ack is so at a longer log
spent_on : (ss more : List Step) (t : AckTold) (receipts : List ReceiptParts) → AreSpentFor ss t receipts → AreSpentFor (ss ++ more) t receipts
spent_on ss more t receipts is =
    let before : take (t.at - 1) (ss ++ more) ≡ take (t.at - 1) ss = take-append-le (t.at - 1) ss more (omega (arith, is.reached)) in
    record {
      make = is.make;
      reached = omega (arith, is.reached, length-append ss more);
      hold = subst (λ xs. All (IsReceipt xs) receipts) (sym before) is.hold;
    }

spents_on : (ss more : List Step) (acks : List AckTold) (spent : List (List ReceiptParts)) → AreSpent ss acks spent → AreSpent (ss ++ more) acks spent
spents_on ss more [] [] all = tt
spents_on ss more [] (rs ∷ spent) all = absurd all
spents_on ss more (t ∷ acks) [] all = absurd all
spents_on ss more (t ∷ acks) (rs ∷ spent) all = (spent_on ss more t rs all.0, spents_on ss more acks spent all.1)

pub spents_later : (front log : List Entry) (acks : List AckTold) (spent : List (List ReceiptParts)) → IsPrefix front log → AreSpent (steps_of front) acks spent → AreSpent (steps_of log) acks spent
spents_later front log acks spent p all = subst (λ ss. AreSpent ss acks spent) (steps_begin front log p) (spents_on (steps_of front) (steps_of p.0) acks spent all)

-- one more
pub all_more : {X : Type 0} (P : X → Type 0) (xs : List X) (i : ℕ) (x : X) → i < length xs → x ≡ get_or xs i x → All P (take i xs) → P x → All P (take (i + 1) xs)
all_more P xs i x lt is before this =
    all_from P (take (i + 1) xs) (λ y inside.
    ⊎_elim
    (λ l. All-contains P (take i xs) y before l)
    (λ r. ⊎_elim (λ same. subst P (is ∙ sym same) this) (λ none. absurd (not_in_nil y none)) (in_cases (get_or xs i x) y [] r))
    (Contains-append_cases (take i xs) (get_or xs i x ∷ []) y (subst (λ zs. Contains zs y) (take_more xs i x lt) inside)))
