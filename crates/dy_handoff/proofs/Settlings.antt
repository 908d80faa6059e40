-- Settling, answer by answer. No more answers bring receipts than asks were made: an answer that
-- does is the last to its ask, so the numbers of those asks are all different, and below their
-- count.
use Rattle.std.proofs.Common.{◌≡◌, ◌++◌, ◌∷◌, ◌<◌, ◌≤◌, ◌+◌, ◌-◌, ◌^◌, [], ℕ, List, Some, Result, length, min, nat_eq, zero, suc, refl, sym, ◌∙◌, ap, subst, arith, length-append, append_assoc, inl, inr}
use Rattle.std.proofs.lemmas.Bool.{cases_order}
use Rattle.std.proofs.lemmas.Bool.Decides.{Decides-eqb}
use Rattle.std.proofs.lemmas.List.{append-nil}
use Rattle.std.proofs.lemmas.List.Elements.{All-nil, All-cons, All-head, All-tail, All-append, All-contains, All-push, All-map}
use Rattle.std.proofs.lemmas.List.Quantifiers.{all_pairs_push}
use Rattle.std.proofs.lemmas.List.Sums.{fold-append, fold_push}
use Rattle.std.proofs.lemmas.Map.Made.{IsDistinct-from_AllPairs}
use Rattle.std.proofs.lemmas.Option.{slice_get_within}
use Rattle.std.specs.List.{All, AllPairs, Contains, IsDistinct, fold, slice_get}
use Rattle.dy_dots.specs.declared.faults.Fault.{Fault}
use Rattle.dy_siblings.specs.declared.versions.Version.{Version}
use Rattle.dy_siblings.proofs.Members.{not_in_nil, in_head, in_tail}
use Rattle.dy_core.proofs.Pigeons.{shared}
use Rattle.dy_shares.specs.Shares.{ReceiptParts, receipt_parts}
use Rattle.dy_book.specs.Books.{receipts_of}
use Rattle.dy_node.specs.declared.asks.Answer.{Answer}
use Rattle.dy_node.specs.declared.asks.Answer.TheVariants.{Stored, Rows, Down, NoAnswer, Refused}
use Rattle.dy_transport.specs.Asking.{FitsWhat}
use Rattle.dy_transport.specs.Snapshots.{snapshot_of}
use Rattle.dy_transport.specs.Told.{Told, Answers, IsAwaited}
use Rattle.dy_transport.specs.declared.asked.Asked.{Asked}
use Rattle.dy_transport.specs.declared.asked.What.{What}
use Rattle.dy_transport.specs.declared.asked.What.TheVariants.{Store, Fetch}
use Rattle.dy_transport.specs.declared.replies.Reply.{Reply}
use Rattle.dy_transport.specs.declared.tries.Try.{Try}
use Rattle.dy_transport.specs.declared.tries.Try.TheVariants.{Settle}
use Rattle.dy_reads.specs.Rules.{IsReplyTo}
use Rattle.dy_handoff.specs.Passes.{ReceiptList, released_of, settle_tries, stored_in, stored_of}
use Rattle.dy_handoff.specs.declared.counts.Pass.{Pass}
use Rattle.dy_handoff.specs.inside.Settling.{Differ, IsUnderWay, Settles, SettlesOne, number_in, numbers_of}

ask_at : (P : Asked → Type 0) (asks : List Asked) (k : ℕ) (a : Asked) → All P asks → slice_get asks k ≡ Some a → P a
ask_at P [] k a all e = absurd (cc)
ask_at P (b ∷ asks) zero a all e = let s : b ≡ a = cc in subst P s (All-head P b asks all)
ask_at P (b ∷ asks) (suc k) a all e = ask_at P asks k a (All-tail P b asks all) e

receipts_home : (vs : List Version) (to home : ℕ) → to ≡ home → All (λ r. r.holder ≡ r.home) (receipts_of vs to home)
receipts_home vs to home same = All-map (λ (r : ReceiptParts). r.holder ≡ r.home) (λ (v : Version). receipt_parts v.key v.dot to home) vs (λ k d lt. same)

-- the numbers below this one
abbrev below : ℕ → List ℕ
below zero = []
below (suc n) = n ∷ below n

length-below : (n : ℕ) → length (below n) ≡ n
length-below zero = refl
length-below (suc n) = ap suc (length-below n)

in_below : (n k : ℕ) → k < n → Contains (below n) k
in_below zero k lt = absurd (omega arith)
in_below (suc n) k lt = elim (cases_order k n) [
  | inl same ↦ (let P : ℕ → Type 0 = λ x. Contains (n ∷ below n) x in subst P (sym same) (in_head n (below n)))
  | inr (inl less) ↦ in_tail n k (below n) (in_below n k less)
  | inr (inr more) ↦ absurd (omega arith)
]

none_of_none : IsDistinct nat_eq []
none_of_none = IsDistinct-from_AllPairs Decides-eqb [] (λ i j d l k. absurd (omega arith))

-- different numbers below n are at most n
few_below : (n : ℕ) (ks : List ℕ) → AllPairs Differ ks → All (λ k. k < n) ks → length ks ≤ n
few_below n ks apart within = elim (cases_order (length ks) n) [
  | inl same ↦ omega arith
  | inr (inl less) ↦ omega arith
  | inr (inr more) ↦ (
      let l = length-below n in
      let both = shared ks [] (below n) (IsDistinct-from_AllPairs Decides-eqb ks apart) none_of_none
      (λ k inside. in_below n k (All-contains (λ k. k < n) ks k within inside))
      (λ k inside. absurd (not_in_nil k inside)) (omega arith) in
      absurd (not_in_nil both.number both.in_second))
]

-- the receipts of one answer are those of homes
abbrev pub AreHomes : ReceiptList → Type 0
AreHomes receipts = All (λ r. r.holder ≡ r.home) receipts.items

settle_count : (J : Type 0) (node : ℕ) (xs : List ReceiptList) (gs : List (Result ℕ Fault)) → length (settle_tries {J = J} node xs gs) ≤ length xs
settle_count J node [] gs = omega arith
settle_count J node (y ∷ xs) [] = omega arith
settle_count J node (y ∷ xs) (h ∷ gs) = let l : length (settle_tries {J = J} node xs gs) ≤ length xs = settle_count J node xs gs in omega arith

module _ {J : Type 0} where
  -- an answer is read that brings these receipts, or none of them
  all_in : (P : ℕ → Type 0) (number : ℕ) (x : Answer J) → ((receipts : ReceiptList) → x ≡ Stored receipts → P number) → All P (number_in number x)
  all_in P number (Stored receipts) h = All-cons P number [] (h receipts refl) (All-nil P)
  all_in P number (Rows seen) h = All-nil P
  all_in P number Down h = All-nil P
  all_in P number NoAnswer h = All-nil P
  all_in P number (Refused f) h = All-nil P

  numbers_within : (asks : List Asked) (replies : List (Reply J)) → All (IsReplyTo asks) replies → All (λ k. k < length asks) (numbers_of replies)
  numbers_within asks [] known = All-nil (λ (k : ℕ). k < length asks)
  numbers_within asks (r ∷ replies) known =
      let P : ℕ → Type 0 = λ k. k < length asks in
      let here : IsReplyTo asks r = All-head (IsReplyTo asks) r replies known in
      All-append P (number_in r.number r.answer.value) (numbers_of replies)
      (all_in P r.number r.answer.value (λ _ _. slice_get_within asks r.number here.0 here.1))
      (numbers_within asks replies (All-tail (IsReplyTo asks) r replies known))

  is_stored : (x : Answer J) (receipts : ReceiptList) → x ≡ Stored receipts → x ≡ NoAnswer → ⊥
  is_stored x receipts e f = absurd (cc)

  numbers_not : (replies : List (Reply J)) (number : ℕ) → IsAwaited replies number → All (λ k. Differ k number) (numbers_of replies)
  numbers_not [] number awaited = All-nil (λ (k : ℕ). Differ k number)
  numbers_not (r ∷ replies) number awaited =
      let P : ℕ → Type 0 = λ k. Differ k number in
      let Q : Reply J → Type 0 = λ q. q.number ≡ number → q.answer.value ≡ NoAnswer in
      All-append P (number_in r.number r.answer.value) (numbers_of replies)
      (all_in P r.number r.answer.value (λ receipts e same. is_stored r.answer.value receipts e (All-head Q r replies awaited same)))
      (numbers_not replies number (All-tail Q r replies awaited))

  numbers_push : (replies : List (Reply J)) (r : Reply J) → numbers_of (replies ++ r ∷ []) ≡ numbers_of replies ++ number_in r.number r.answer.value
  numbers_push [] r = append-nil (number_in r.number r.answer.value)
  numbers_push (q ∷ replies) r = ap (λ xs. number_in q.number q.answer.value ++ xs) (numbers_push replies r) ∙ sym (append_assoc (number_in q.number q.answer.value) (numbers_of replies) (number_in r.number r.answer.value))

  apart_in : (ks : List ℕ) (number : ℕ) (x : Answer J) → AllPairs Differ ks → All (λ k. Differ k number) ks → AllPairs Differ (ks ++ number_in number x)
  apart_in ks number (Stored receipts) apart not = all_pairs_push Differ ks number apart not
  apart_in ks number (Rows seen) apart not = rw (append-nil ks) apart
  apart_in ks number Down apart not = rw (append-nil ks) apart
  apart_in ks number NoAnswer apart not = rw (append-nil ks) apart
  apart_in ks number (Refused f) apart not = rw (append-nil ks) apart

  -- the asks that brought receipts stay different
  pub apart_more : (replies more : List (Reply J)) (r : Reply J) → AllPairs Differ (numbers_of replies) → IsAwaited replies r.number → more ≡ replies ++ r ∷ []
      → AllPairs Differ (numbers_of more)
  apart_more replies more r apart awaited m = rw (m, numbers_push replies r)
      (apart_in (numbers_of replies) r.number r.answer.value apart (numbers_not replies r.number awaited))

  pub known_more : (asks now : List Asked) (replies more : List (Reply J)) (r : Reply J) → All (IsReplyTo asks) replies → IsReplyTo asks r → now ≡ asks → more ≡ replies ++ r ∷ []
      → All (IsReplyTo now) more
  known_more asks now replies more r known is n m = rw (n, m) (All-push (IsReplyTo asks) replies r known is)

  count_in : (number : ℕ) (x : Answer J) → length (number_in number x) ≡ length (stored_in x)
  count_in number (Stored receipts) = refl
  count_in number (Rows seen) = refl
  count_in number Down = refl
  count_in number NoAnswer = refl
  count_in number (Refused f) = refl

  counts : (replies : List (Reply J)) → length (numbers_of replies) ≡ length (stored_of replies)
  counts [] = refl
  counts (r ∷ replies) =
      let a : length (number_in r.number r.answer.value) ≡ length (stored_in r.answer.value) = count_in r.number r.answer.value in
      let b : length (numbers_of replies) ≡ length (stored_of replies) = counts replies in
      omega (arith, length-append (number_in r.number r.answer.value) (numbers_of replies), length-append (stored_in r.answer.value) (stored_of replies))

  -- no more answers bring receipts than asks were made
  pub stored_few : (asks : List Asked) (replies : List (Reply J)) → All (IsReplyTo asks) replies → AllPairs Differ (numbers_of replies) → length (stored_of replies) ≤ length asks
  stored_few asks replies known apart =
      let few : length (numbers_of replies) ≤ length asks = few_below (length asks) (numbers_of replies) apart (numbers_within asks replies known) in
      let same : length (numbers_of replies) ≡ length (stored_of replies) = counts replies in
      omega arith

  -- the receipts of an answer to an ask for the home that it went to are the home's own
  at_home : (to home : ℕ) (w : What) (x : Answer J) (receipts : ReceiptList) → to ≡ home → FitsWhat to home w x → stored_in x ≡ receipts ∷ [] → AreHomes receipts
  at_home to home (Store row) (Stored list) receipts same f e =
      let P : List ReceiptParts → Type 0 = λ xs. All (λ r. r.holder ≡ r.home) xs in
      let s : list ≡ receipts = cc in
      subst AreHomes s (subst P (sym f) (receipts_home row.value.versions to home same))
  at_home to home (Fetch key since) (Stored list) receipts same f e = absurd f
  at_home to home w (Rows seen) receipts same f e = absurd (cc)
  at_home to home w Down receipts same f e = absurd (cc)
  at_home to home w NoAnswer receipts same f e = absurd (cc)
  at_home to home w (Refused g) receipts same f e = absurd (cc)

  pub receipts_at_home : (asks : List Asked) (number node home : ℕ) (x : Answer J) (receipts : ReceiptList) → All (λ a. a.to ≡ a.home) asks → Answers asks number node home x
      → stored_in x ≡ receipts ∷ [] → AreHomes receipts
  receipts_at_home asks number node home x receipts homes h e =
      at_home h.0.to h.0.home h.0.what x receipts (ask_at (λ a. a.to ≡ a.home) asks number h.0 homes h.1) h.4 e

  stored_push : (replies : List (Reply J)) (r : Reply J) → stored_of (replies ++ r ∷ []) ≡ stored_of replies ++ stored_in r.answer.value
  stored_push [] r = append-nil (stored_in r.answer.value)
  stored_push (q ∷ replies) r = ap (λ xs. stored_in q.answer.value ++ xs) (stored_push replies r) ∙ sym (append_assoc (stored_in q.answer.value) (stored_of replies) (stored_in r.answer.value))

  pub stored_one : (replies more : List (Reply J)) (r : Reply J) (x : ReceiptList) → stored_in r.answer.value ≡ x ∷ [] → more ≡ replies ++ r ∷ [] → stored_of more ≡ stored_of replies ++ x ∷ []
  stored_one replies more r x e m = rw (m, stored_push replies r, e) refl

  pub stored_none : (replies more : List (Reply J)) (r : Reply J) → stored_in r.answer.value ≡ [] → more ≡ replies ++ r ∷ [] → stored_of more ≡ stored_of replies
  stored_none replies more r e m = rw (m, stored_push replies r, e) (append-nil (stored_of replies))

  pub stored_count : (replies more : List (Reply J)) (r : Reply J) (x : ReceiptList) (n : ℕ) → n ≡ length (stored_of replies) → stored_in r.answer.value ≡ x ∷ [] → more ≡ replies ++ r ∷ []
      → n + 1 ≡ length (stored_of more)
  stored_count replies more r x n e is m =
      let l : length (stored_of more) ≡ length (stored_of replies) + 1 = ap length (stored_one replies more r x is m) ∙ length-append (stored_of replies) (x ∷ []) in
      omega arith

  settle_push : (node : ℕ) (xs : List ReceiptList) (gs : List (Result ℕ Fault)) (x : ReceiptList) (g : Result ℕ Fault) → length gs ≡ length xs
      → settle_tries {J = J} node (xs ++ x ∷ []) (gs ++ g ∷ []) ≡ settle_tries node xs gs ++ Settle node (snapshot_of x) (snapshot_of g) ∷ []
  settle_push node [] [] x g e = refl
  settle_push node [] (h ∷ gs) x g e = absurd (omega arith)
  settle_push node (y ∷ xs) [] x g e = absurd (omega arith)
  settle_push node (y ∷ xs) (h ∷ gs) x g e = ap (λ ts. Settle node (snapshot_of y) (snapshot_of h) ∷ ts) (settle_push node xs gs x g (omega arith))

  -- at first nothing is settled
  pub settles_start : (node released : ℕ) (told : Told J) → Settles node told told released released
  settles_start node released told = record {
    came = [];
    gave = [];
    each = refl;
    replies = sym (append-nil told.replies);
    tries = sym (append-nil told.tries);
    after_is = refl;
  }

  -- an answer more, which was settled
  pub settles_more : (node before released after : ℕ) (start old mid new : Told J) (r : Reply J) (x : ReceiptList) → Settles node start old before released
      → stored_in r.answer.value ≡ x ∷ [] → mid.tries ≡ old.tries → mid.replies ≡ old.replies ++ r ∷ [] → SettlesOne node x mid new released after
      → Settles node start new before after
  settles_more node before released after start old mid new r x s e same more one =
      let stored : stored_of (s.came ++ r ∷ []) ≡ stored_of s.came ++ x ∷ [] = stored_one s.came (s.came ++ r ∷ []) r x e refl in
      let settle : Try J = Settle node (snapshot_of x) (snapshot_of one.gave) in
      let done : List (Try J) = settle_tries node (stored_of s.came) s.gave in
      record {
        came = s.came ++ r ∷ [];
        gave = s.gave ++ one.gave ∷ [];
        each = rw stored (let each = s.each in omega (arith, length-append s.gave (one.gave ∷ []), length-append (stored_of s.came) (x ∷ [])));
        replies = ap (λ (t : Told J). t.replies) one.told_is ∙ (more ∙ (ap (λ rs. rs ++ r ∷ []) s.replies ∙ append_assoc start.replies s.came (r ∷ [])));
        tries = ap (λ (t : Told J). t.tries) one.told_is ∙ (ap (λ ts. ts ++ settle ∷ []) (same ∙ s.tries)
            ∙ (append_assoc start.tries done (settle ∷ []) ∙ ap (λ ts. start.tries ++ ts)
            (sym (ap (λ xs. settle_tries node xs (s.gave ++ one.gave ∷ [])) stored ∙ settle_push node (stored_of s.came) s.gave x one.gave s.each))));
        after_is = one.after_is ∙ (ap (λ n. min (n + released_of one.gave) (2 ^ 64 - 1)) s.after_is
            ∙ sym (fold_push (λ (n : ℕ) (g : Result ℕ Fault). min (n + released_of g) (2 ^ 64 - 1)) before s.gave one.gave));
      }

  -- an answer more, which brought no receipts
  pub settles_none : (node before released : ℕ) (start old new : Told J) (r : Reply J) → Settles node start old before released → stored_in r.answer.value ≡ []
      → new.tries ≡ old.tries → new.replies ≡ old.replies ++ r ∷ [] → Settles node start new before released
  settles_none node before released start old new r s e same more =
      let stored : stored_of (s.came ++ r ∷ []) ≡ stored_of s.came = stored_none s.came (s.came ++ r ∷ []) r e refl in
      record {
        came = s.came ++ r ∷ [];
        gave = s.gave;
        each = s.each ∙ ap length (sym stored);
        replies = more ∙ (ap (λ rs. rs ++ r ∷ []) s.replies ∙ append_assoc start.replies s.came (r ∷ []));
        tries = same ∙ (s.tries ∙ ap (λ xs. start.tries ++ settle_tries node xs s.gave) (sym stored));
        after_is = s.after_is;
      }

  stored-append : (xs ys : List (Reply J)) → stored_of (xs ++ ys) ≡ stored_of xs ++ stored_of ys
  stored-append [] ys = refl
  stored-append (r ∷ xs) ys = ap (λ zs. stored_in r.answer.value ++ zs) (stored-append xs ys) ∙ sym (append_assoc (stored_in r.answer.value) (stored_of xs) (stored_of ys))

  settle-append : (node : ℕ) (xs ys : List ReceiptList) (gs hs : List (Result ℕ Fault)) → length gs ≡ length xs
      → settle_tries {J = J} node (xs ++ ys) (gs ++ hs) ≡ settle_tries node xs gs ++ settle_tries node ys hs
  settle-append node [] ys [] hs e = refl
  settle-append node [] ys (h ∷ gs) hs e = absurd (omega arith)
  settle-append node (x ∷ xs) ys [] hs e = absurd (omega arith)
  settle-append node (x ∷ xs) ys (h ∷ gs) hs e = ap (λ ts. Settle node (snapshot_of x) (snapshot_of h) ∷ ts) (settle-append node xs ys gs hs (omega arith))

  -- what was settled, and what was settled after it
  pub settles_join : (node a b c : ℕ) (old mid new : Told J) → Settles node old mid a b → Settles node mid new b c → Settles node old new a c
  settles_join node a b c old mid new s t =
      let stored : stored_of (s.came ++ t.came) ≡ stored_of s.came ++ stored_of t.came = stored-append s.came t.came in
      let done : List (Try J) = settle_tries node (stored_of s.came) s.gave in
      let more : List (Try J) = settle_tries node (stored_of t.came) t.gave in
      record {
        came = s.came ++ t.came;
        gave = s.gave ++ t.gave;
        each = rw stored (let e = s.each in let f = t.each in omega (arith, length-append s.gave t.gave, length-append (stored_of s.came) (stored_of t.came)));
        replies = t.replies ∙ (ap (λ rs. rs ++ t.came) s.replies ∙ append_assoc old.replies s.came t.came);
        tries = t.tries ∙ (ap (λ ts. ts ++ more) s.tries ∙ (append_assoc old.tries done more ∙ ap (λ ts. old.tries ++ ts)
            (sym (ap (λ xs. settle_tries node xs (s.gave ++ t.gave)) stored ∙ settle-append node (stored_of s.came) (stored_of t.came) s.gave t.gave s.each))));
        after_is = t.after_is ∙ (ap (λ n. fold (λ (n : ℕ) (g : Result ℕ Fault). min (n + released_of g) (2 ^ 64 - 1)) n t.gave) s.after_is
            ∙ sym (fold-append (λ (n : ℕ) (g : Result ℕ Fault). min (n + released_of g) (2 ^ 64 - 1)) a s.gave t.gave));
      }

  -- for each settle there is room
  pub tries_within : (told : Told J) (done : Pass) → IsUnderWay told done → length told.tries ≤ 1 + told.room
  tries_within told done way =
      let stored = stored_few told.asks told.replies way.known way.apart in
      let tries = way.tries in
      let few = way.few in
      omega arith

  -- a settle more where an answer brought receipts, and none where it did not
  pub tries_one : (old : List (Reply J)) (n m : ℕ) (more : List (Reply J)) (r : Reply J) (x : ReceiptList) → n ≤ 1 + length (stored_of old) → m ≡ n + 1
      → stored_in r.answer.value ≡ x ∷ [] → more ≡ old ++ r ∷ [] → m ≤ 1 + length (stored_of more)
  tries_one old n m more r x few e is more_is =
      let l : length (stored_of old) + 1 ≡ length (stored_of more) = stored_count old more r x (length (stored_of old)) refl is more_is in
      omega arith

  -- an answer more that brought receipts, which were settled
  pub way_stored : (old new : Told J) (offers stored released after : ℕ) (r : Reply J) (x : ReceiptList) → IsUnderWay old (record { offers = offers; stored = stored; released = released })
      → IsReplyTo old.asks r → IsAwaited old.replies r.number → stored_in r.answer.value ≡ x ∷ [] → new.asks ≡ old.asks → new.replies ≡ old.replies ++ r ∷ []
      → length new.tries ≡ length old.tries + 1 → new.room ≡ old.room → IsUnderWay new (record { offers = offers; stored = stored + 1; released = after })
  way_stored old new offers stored released after r x way is awaited e now more count room = record {
    known = known_more old.asks new.asks old.replies new.replies r way.known is now more;
    apart = apart_more old.replies new.replies r way.apart awaited more;
    homes = (let P : List Asked → Type 0 = λ xs. All (λ a. a.to ≡ a.home) xs in subst P (sym now) way.homes);
    few = rw (now, room) way.few;
    tries = tries_one old.replies (length old.tries) (length new.tries) new.replies r x way.tries count e more;
    offers_are = way.offers_are ∙ ap length (sym now);
    stored_are = stored_count old.replies new.replies r x stored way.stored_are e more;
  }

  -- an answer more that brought none
  pub way_unstored : (old new : Told J) (done : Pass) (r : Reply J) → IsUnderWay old done → IsReplyTo old.asks r → IsAwaited old.replies r.number → stored_in r.answer.value ≡ []
      → new.asks ≡ old.asks → new.replies ≡ old.replies ++ r ∷ [] → new.tries ≡ old.tries → new.room ≡ old.room → IsUnderWay new done
  way_unstored old new done r way is awaited e now more same room =
      let stored : stored_of new.replies ≡ stored_of old.replies = stored_none old.replies new.replies r e more in
      record {
        known = known_more old.asks new.asks old.replies new.replies r way.known is now more;
        apart = apart_more old.replies new.replies r way.apart awaited more;
        homes = (let P : List Asked → Type 0 = λ xs. All (λ a. a.to ≡ a.home) xs in subst P (sym now) way.homes);
        few = rw (now, room) way.few;
        tries = rw (same, stored) way.tries;
        offers_are = way.offers_are ∙ ap length (sym now);
        stored_are = way.stored_are ∙ ap length (sym stored);
      }
