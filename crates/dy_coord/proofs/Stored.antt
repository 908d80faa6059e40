-- The homes that nodes answered for are those of the receipts that count, so that enough homes are enough receipts.
use Rattle.std.proofs.Common.{◌≡◌, ◌∷◌, [], ◌<◌, ◌≤◌, List, ℕ, zero, suc, false}
use Rattle.std.proofs.Common.{length, map, take, nat_eq, refl, sym, ◌∙◌, ap, subst, arith}
use Rattle.std.proofs.Common.{inl, inr, ⊎_elim, ◌↔◌}
use Rattle.std.specs.Prelude.{Result, Ok, Err, IfErr}
use Rattle.std.specs.List.{AllByRecursion, Contains, IsDistinct}
use Rattle.std.proofs.lemmas.Bool.{cases_order}
use Rattle.std.proofs.lemmas.List.{length-map, length-take}
use Rattle.std.proofs.lemmas.List.Elements.{All-from_recursion, recursion_from_All, All-take}
use Rattle.std.proofs.lemmas.List.Elements.{All-weaker, All-map}
use Rattle.std.proofs.lemmas.List.Elements.{Contains-append_cases, Contains-append_left}
use Rattle.std.proofs.lemmas.List.Elements.{Contains-append_right}
use Rattle.dy_dots.specs.declared.dots.Dot.{Dot}
use Rattle.dy_dots.specs.declared.faults.Fault.{Fault}
use Rattle.dy_dots.specs.declared.faults.Fault.TheVariants.{NotEnough}
use Rattle.dy_siblings.specs.Siblings.{Siblings}
use Rattle.dy_siblings.proofs.Members.{in_cases, in_head, in_tail, not_in_nil}
use Rattle.dy_preference.specs.Preferences.{Preferred}
use Rattle.dy_shares.specs.Shares.{ReceiptParts, SessionPart, receipt_parts}
use Rattle.dy_quorum.specs.Tallies.{CanChoose, IsChoice}
use Rattle.dy_quorum.proofs.Choices.{holders_distinct}
use Rattle.dy_node.specs.declared.asks.Answer.{Answer}
use Rattle.dy_node.specs.declared.asks.Answer.TheVariants.{Stored, Rows, Down, NoAnswer, Refused}
use Rattle.dy_transport.specs.Kinds.{kind_of}
use Rattle.dy_transport.specs.Refusals.{IsOfStep}
use Rattle.dy_transport.specs.Told.{Told}
use Rattle.dy_core.specs.declared.answers.AnswerKind.TheVariants as kind
use Rattle.dy_core.specs.declared.answers.AnswerRead.{AnswerRead}
use Rattle.dy_transport.specs.declared.replies.Reply.{Reply}
use Rattle.dy_transport.specs.declared.tries.Try.{Try}
use Rattle.dy_reads.specs.Rules.{as_read}
use Rattle.dy_coord.specs.Puts.{AreStoredFor, IsStoredFor, Spreads, own_answer, own_receipt}
use Rattle.dy_coord.specs.Puts.{receipt_read, receipts_read}
use Rattle.dy_coord.specs.PutEnds.{EndsAfter}
use Rattle.dy_coord.specs.declared.put_results.PutDone.{PutDone}
use Rattle.dy_coord.specs.declared.put_results.PutFault.{PutFault}

-- a receipt for the home is among those that count
record IsReceipted (added : List ReceiptParts) (home : ℕ) : Type 0 where
  receipt : ReceiptParts
  in_list : Contains added receipt
  home_is : receipt.home ≡ home

-- receipts for just these homes, in their order
record ArePicked (added : List ReceiptParts) (homes : List ℕ) : Type 0 where
  picked : List ReceiptParts
  homes_are : map (λ r. r.home) picked ≡ homes
  among : AllByRecursion (Contains added) picked

pick : (added : List ReceiptParts) (homes : List ℕ) → AllByRecursion (IsReceipted added) homes →
    ArePicked added homes
pick added [] all = record { picked = []; homes_are = refl; among = tt }
pick added (h ∷ homes) all =
    let rest = pick added homes all.1 in
    record {
      picked = all.0.receipt ∷ rest.picked;
      homes_are = λ i. all.0.home_is i ∷ rest.homes_are i;
      among = (all.0.in_list, rest.among);
    }

front_all : (P : ℕ → Type 0) (n : ℕ) (xs : List ℕ) → AllByRecursion P xs → AllByRecursion P (take n xs)
front_all P zero xs all = tt
front_all P (suc n) [] all = tt
front_all P (suc n) (x ∷ xs) all = (all.0, front_all P n xs all.1)

front_distinct : (n : ℕ) (xs : List ℕ) → IsDistinct nat_eq xs → IsDistinct nat_eq (take n xs)
unfolding IsDistinct
front_distinct zero xs d = tt
front_distinct (suc n) [] d = tt
front_distinct (suc n) (x ∷ xs) d = (front_all (λ y. nat_eq x y ≡ false) n xs d.0, front_distinct n xs d.1)

module _ {J : Type 0} (key : List ℕ) (dot : Dot) where
  -- an answer that the node holds the row has its receipt
  one : (node home : ℕ) (x : Answer J) → kind_of x ≡ kind.Stored →
      receipt_read key dot node home x ≡ receipt_parts key dot node home ∷ []
  one node home (Stored list) e = refl
  one node home (Rows seen) e = absurd (cc)
  one node home Down e = absurd (cc)
  one node home NoAnswer e = absurd (cc)
  one node home (Refused f) e = absurd (cc)

  -- and only such an answer has one
  one_back : (node home : ℕ) (x : Answer J) (r : ReceiptParts) →
      Contains (receipt_read key dot node home x) r → (r.home ≡ home) × (kind_of x ≡ kind.Stored)
  one_back node home (Stored list) r h =
      ⊎_elim (λ same. (ap (λ (x : ReceiptParts). x.home) same, refl)) (λ none. absurd (not_in_nil r none))
      (in_cases (receipt_parts key dot node home) r [] h)
  one_back node home (Rows seen) r h = absurd (not_in_nil r h)
  one_back node home Down r h = absurd (not_in_nil r h)
  one_back node home NoAnswer r h = absurd (not_in_nil r h)
  one_back node home (Refused f) r h = absurd (not_in_nil r h)

  stored_read : (replies : List (Reply J)) (a : AnswerRead) → Contains (map as_read replies) a →
      a.kind ≡ kind.Stored → IsReceipted (receipts_read key dot replies) a.place.home
  stored_read [] a h k = absurd (not_in_nil a h)
  stored_read (q ∷ replies) a h k =
      let first = receipt_read key dot q.node q.home q.answer.value in
      let r = receipt_parts key dot q.node q.home in
      ⊎_elim
      (λ here.
      let is = one q.node q.home q.answer.value (ap (λ (x : AnswerRead). x.kind) (sym here) ∙ k) in
      record {
        receipt = r;
        in_list = Contains-append_left first (receipts_read key dot replies) r
            (subst (λ xs. Contains xs r) (sym is) (in_head r []));
        home_is = ap (λ (x : AnswerRead). x.place.home) (sym here);
      })
      (λ later.
      let rest = stored_read replies a later k in
      record {
        receipt = rest.receipt;
        in_list = Contains-append_right first (receipts_read key dot replies) rest.receipt rest.in_list;
        home_is = rest.home_is;
      })
      (in_cases (as_read q) a (map as_read replies) h)

  read_stored : (replies : List (Reply J)) (r : ReceiptParts) →
      Contains (receipts_read key dot replies) r → IsStoredFor (map as_read replies) r.home
  read_stored [] r h = absurd (not_in_nil r h)
  read_stored (q ∷ replies) r h =
      ⊎_elim
      (λ here.
      let is = one_back q.node q.home q.answer.value r here in
      record {
        answer = as_read q;
        in_list = in_head (as_read q) (map as_read replies);
        home_is = sym is.0;
        kind_is = is.1;
      })
      (λ later.
      let rest = read_stored replies r later in
      record {
        answer = rest.answer;
        in_list = in_tail (as_read q) rest.answer (map as_read replies) rest.in_list;
        home_is = rest.home_is;
        kind_is = rest.kind_is;
      })
      (Contains-append_cases (receipt_read key dot q.node q.home q.answer.value) (receipts_read key dot replies) r h)

module _ {J : Type 0} (list : Preferred) (row : Siblings) (dot : Dot) (c : ℕ) (told : Told J)
    (added : List ReceiptParts) (answers : List AnswerRead)
    (s : Spreads list row dot c told added answers) where
  -- a home that a node answered for has a receipt
  receipted : (home : ℕ) → IsStoredFor answers home → IsReceipted added home
  receipted home a =
      subst (λ xs. IsReceipted xs home) (sym s.added_are)
      (⊎_elim
      (λ own.
      record {
        receipt = own_receipt list row.key dot c;
        in_list = in_head (own_receipt list row.key dot c) (receipts_read row.key dot told.replies);
        home_is = ap (λ (x : AnswerRead). x.place.home) (sym own) ∙ a.home_is;
      })
      (λ later.
      let r = stored_read row.key dot told.replies a.answer later a.kind_is in
      record {
        receipt = r.receipt;
        in_list = in_tail (own_receipt list row.key dot c) r.receipt (receipts_read row.key dot told.replies) r.in_list;
        home_is = r.home_is ∙ a.home_is;
      })
      (in_cases (own_answer list c) a.answer (map as_read told.replies)
      (subst (λ xs. Contains xs a.answer) s.answers_are a.in_list)))

  -- and a receipt is for a home that a node answered for
  stored_for : (r : ReceiptParts) → Contains added r → IsStoredFor answers r.home
  stored_for r h =
      subst (λ xs. IsStoredFor xs r.home) (sym s.answers_are)
      (⊎_elim
      (λ own.
      record {
        answer = own_answer list c;
        in_list = in_head (own_answer list c) (map as_read told.replies);
        home_is = ap (λ (x : ReceiptParts). x.home) (sym own);
        kind_is = refl;
      })
      (λ later.
      let a = read_stored row.key dot told.replies r later in
      record {
        answer = a.answer;
        in_list = in_tail (own_answer list c) a.answer (map as_read told.replies) a.in_list;
        home_is = a.home_is;
        kind_is = a.kind_is;
      })
      (in_cases (own_receipt list row.key dot c) r (receipts_read row.key dot told.replies)
      (subst (λ xs. Contains xs r) s.added_are h)))

  -- where nodes answered for w homes, w receipts can be chosen
  can_choose : (w : ℕ) (homes : List ℕ) → AreStoredFor answers homes → w ≤ length homes → CanChoose w added
  can_choose w homes are enough =
      let front = take w homes in
      let p = pick added front
      (recursion_from_All (IsReceipted added) front
      (All-weaker (IsStoredFor answers) (IsReceipted added) receipted front (All-take (IsStoredFor answers) w homes are.1))) in
      let among = All-from_recursion (Contains added) p.picked p.among in
      let distinct = subst (IsDistinct nat_eq) (sym p.homes_are) (front_distinct w homes are.0) in
      let mapped : length (map (λ (r : ReceiptParts). r.home) p.picked) ≡ length p.picked = length-map p.picked (λ (r : ReceiptParts). r.home) in
      let taken : length (map (λ (r : ReceiptParts). r.home) p.picked) ≡ length front = ap length p.homes_are in (
        p.picked,
        record {
          count = omega (arith, mapped, taken, length-take w homes, enough);
          among = among;
          homes = distinct;
          holders = holders_distinct added p.picked s.agree among distinct;
        },
      )

  -- the homes of chosen receipts were answered for
  chosen_stored : (w : ℕ) (chosen : List ReceiptParts) → IsChoice w added chosen →
      AreStoredFor answers (map (λ r. r.home) chosen)
  chosen_stored w chosen choice = (
    choice.homes,
    All-map (IsStoredFor answers) (λ (r : ReceiptParts). r.home) chosen
        (All-weaker (Contains added) (λ r. IsStoredFor answers r.home) stored_for chosen choice.among),
  )

  module _ (key : List ℕ) (w : ℕ) (begins tries : List (Try J)) (before after : SessionPart)
      (result : Result (PutDone J) PutFault) where
    -- where w homes were answered for, a refusal is of the step of the ack
    pub taken : EndsAfter key dot w added answers begins tries before after result →
        (homes : List ℕ) → AreStoredFor answers homes → w ≤ length homes →
        IfErr result (λ e. IsOfStep e.fault)
    taken (inl (spent, last, ok)) homes are enough =
        subst (λ r. IfErr r (λ e. IsOfStep e.fault)) (sym ok.result_is) tt
    taken (inr (inl (same, (e, is, dot_is, answers_are, (step, tried))))) homes are enough =
        subst (λ r. IfErr r (λ e. IsOfStep e.fault)) (sym is) step
    taken (inr (inr (can, none, same, why))) homes are enough =
        absurd (can (can_choose w homes are enough))

    not_of_step : (f : Fault) → IsOfStep f → f ≡ NotEnough → ⊥
    not_of_step f (inl memory) want = cc
    not_of_step f (inr full) want = cc

    -- a refusal for want of homes lists what was read
    pub listed : EndsAfter key dot w added answers begins tries before after result →
        (e : PutFault) → result ≡ Err e → e.fault ≡ NotEnough → e.answers.items ≡ answers
    listed (inl (spent, last, ok)) e is want = absurd (let no : Ok ok.done ≡ Err e = sym ok.result_is ∙ is in cc)
    listed (inr (inl (same, (f, f_is, dot_is, answers_are, (step, tried))))) e is want =
        let e_is : f ≡ e = (let both : Err f ≡ Err e = sym f_is ∙ is in cc) in
        absurd (not_of_step e.fault (subst (λ (x : PutFault). IsOfStep x.fault) e_is step) want)
    listed (inr (inr (can, none, same, (f, f_is, dot_is, answers_are, why)))) e is want =
        let e_is : f ≡ e = (let both : Err f ≡ Err e = sym f_is ∙ is in cc) in
        ap (λ (x : PutFault). x.answers.items) (sym e_is) ∙ answers_are

    -- a refusal is for want of homes exactly where fewer than w were answered for
    pub refused : EndsAfter key dot w added answers begins tries before after result →
        (e : PutFault) → result ≡ Err e →
        (e.fault ≡ NotEnough) ↔ ((homes : List ℕ) → AreStoredFor answers homes → length homes < w)
    refused (inl (spent, last, ok)) e is = absurd (let no : Ok ok.done ≡ Err e = sym ok.result_is ∙ is in cc)
    refused (inr (inl (same, (f, f_is, dot_is, answers_are, (step, (spent, tried)))))) e is =
        let e_is : f ≡ e = (let both : Err f ≡ Err e = sym f_is ∙ is in cc) in (
          (λ want. absurd (not_of_step e.fault (subst (λ (x : PutFault). IsOfStep x.fault) e_is step) want)),
          (λ few.
              let homes = map (λ (r : ReceiptParts). r.home) spent.items in
              let lt = few homes (chosen_stored w spent.items tried.choice) in
              let mapped : length homes ≡ length spent.items = length-map spent.items (λ (r : ReceiptParts). r.home) in
              absurd (omega (arith, lt, mapped, tried.choice.count))),
        )
    refused (inr (inr (can, none, same, (f, f_is, dot_is, answers_are, want)))) e is =
        let e_is : f ≡ e = (let both : Err f ≡ Err e = sym f_is ∙ is in cc) in (
          (λ _ homes are.
              ⊎_elim
              (λ same_count. absurd (can (can_choose w homes are (omega (arith, same_count)))))
              (⊎_elim
              (λ less. less)
              (λ more. absurd (can (can_choose w homes are (omega (arith, more))))))
              (cases_order (length homes) w)),
          (λ _. ap (λ (x : PutFault). x.fault) (sym e_is) ∙ want),
        )
