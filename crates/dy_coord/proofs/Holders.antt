-- The receipts of a put: each is of its key and dot, and no holder has two homes, since the
-- coordinator, those asked and those that may still be asked are all different.
use Rattle.std.proofs.Common.{◌≡◌, ◌++◌, ◌∷◌, [], ◌<◌, ◌≤◌, ◌+◌, List, ℕ, true, zero, suc, Some}
use Rattle.std.proofs.Common.{if◌then◌else◌, false, None, Option, length, nat_eq, get_or, refl, sym, ◌∙◌, ap, subst}
use Rattle.std.proofs.Common.{arith, length-append, append_assoc, inl, inr, ◌⊎◌, IsTrue}
use Rattle.std.proofs.lemmas.Bool.{cases_Bool, cases_order, true≢false}
use Rattle.std.proofs.lemmas.Bool.Decides.{Decides-eqb}
use Rattle.std.proofs.lemmas.List.{get_or_append_left, append-nil}
use Rattle.std.proofs.lemmas.List.Elements.{All-nil, All-cons, All-head, All-tail, All-append}
use Rattle.std.proofs.lemmas.List.Elements.{All-contains}
use Rattle.std.proofs.lemmas.Map.Made.{AllPairs-from_IsDistinct}
use Rattle.std.specs.List.{All, Contains, IsDistinct, slice_get}
use Rattle.dy_dots.specs.Dots.{same_dot}
use Rattle.dy_dots.specs.declared.dots.Dot.{Dot}
use Rattle.dy_dots.proofs.SameDots.{same_dot_is, same_dot_self}
use Rattle.dy_siblings.specs.Siblings.{Siblings, has_dot}
use Rattle.dy_siblings.specs.declared.versions.Version.{Version}
use Rattle.dy_siblings.proofs.Members.{any_from}
use Rattle.dy_shares.specs.Shares.{ReceiptParts, receipt_parts}
use Rattle.dy_book.specs.Books.{AreOf, receipts_of}
use Rattle.dy_quorum.specs.Tallies.{Agrees, FitsAll, IsChoice}
use Rattle.dy_node.specs.declared.asks.Answer.{Answer}
use Rattle.dy_node.specs.declared.asks.Answer.TheVariants.{Stored, Rows, Down, NoAnswer, Refused}
use Rattle.dy_transport.specs.Asking.{FitsWhat}
use Rattle.dy_transport.specs.Snapshots.{snapshot_of}
use Rattle.dy_transport.specs.Told.{Answers}
use Rattle.dy_transport.specs.declared.asked.Asked.{Asked}
use Rattle.dy_transport.specs.declared.asked.What.{What}
use Rattle.dy_transport.specs.declared.asked.What.TheVariants.{Store}
use Rattle.dy_transport.specs.declared.replies.Reply.{Reply}
use Rattle.dy_reads.specs.Rules.{IsReplyTo, nodes_asked}
use Rattle.dy_reads.proofs.Lists.{Apart}
use Rattle.dy_coord.specs.Puts.{receipt_read, receipts_read}
use Rattle.dy_coord.specs.inside.PutReads.{last_of, receipt_at}

-- an ask to that node for that home
abbrev Known : List Asked → ℕ → ℕ → Type 0
Known asks node home = (k : ℕ) × (a : Asked) × (slice_get asks k ≡ Some a) × (a.to ≡ node)
    × (a.home ≡ home)

place : (asks : List Asked) (k : ℕ) (a : Asked) (d : ℕ) → slice_get asks k ≡ Some a →
    (k < length (nodes_asked asks)) × (get_or (nodes_asked asks) k d ≡ a.to)
place [] k a d e = absurd (cc)
place (b ∷ asks) zero a d e = (omega arith, (let s : b ≡ a = cc in ap (λ (x : Asked). x.to) s))
place (b ∷ asks) (suc k) a d e = let p : (k < length (nodes_asked asks))
    × (get_or (nodes_asked asks) k d ≡ a.to) = place asks k a d e in (
      (let l = p.0 in omega arith),
      p.1,
    )

apart_front : (c : ℕ) (xs ys : List ℕ) → Apart (c ∷ xs ++ ys) → Apart xs
apart_front c xs ys h i j d l m = let n : length (xs ++ ys) ≡ length xs + length ys = length-append
    xs ys in
    rw (← get_or_append_left xs ys d i (omega arith), ← get_or_append_left xs ys d j m)
    (h (suc i) (suc j) d (omega arith) (omega arith))

not_first : (c : ℕ) (asks : List Asked) (ys : List ℕ) (node home : ℕ) → Apart (c ∷ nodes_asked asks
    ++ ys) → Known asks node home → c ≡ node → ⊥
not_first c asks ys node home h (k, a, e, to, at) same =
    let p : (k < length (nodes_asked asks)) × (get_or (nodes_asked asks) k 0 ≡ a.to) = place asks k
    a 0 e in
    let lt = p.0 in
    let n : length (nodes_asked asks ++ ys) ≡ length (nodes_asked asks) + length ys = length-append
    (nodes_asked asks) ys in
    h 0 (suc k) 0 (omega arith) (omega arith) (same ∙ sym (get_or_append_left (nodes_asked asks) ys
    0 k lt ∙ (p.1 ∙ to)))

same_home : (asks : List Asked) (node home other : ℕ) → Apart (nodes_asked asks) → Known asks node
    home → Known asks node other → home ≡ other
same_home asks node home other h (k, a, e, to, at) (m, b, f, too, at_b) = elim (cases_order k m) [
  | inl same ↦ (let g : slice_get asks k ≡ Some b = rw same f in let s : a ≡ b = cc in sym at
      ∙ (ap (λ (x : Asked). x.home) s ∙ at_b))
  | inr (inl lt) ↦ absurd (h k m 0 lt (place asks m b 0 f).0 ((place asks k a 0 e).1
      ∙ (to ∙ sym ((place asks m b 0 f).1 ∙ too))))
  | inr (inr gt) ↦ absurd (h m k 0 gt (place asks k a 0 e).0 ((place asks m b 0 f).1
      ∙ (too ∙ sym ((place asks k a 0 e).1 ∙ to))))
]

what_at : (what : What) (asks : List Asked) (k : ℕ) (a : Asked) → All (λ b. b.what ≡ what) asks →
    slice_get asks k ≡ Some a → a.what ≡ what
what_at what [] k a whats e = absurd (cc)
what_at what (b ∷ asks) zero a whats e = let s : b ≡ a = cc in ap (λ (x : Asked). x.what) (sym s)
    ∙ All-head (λ (x : Asked). x.what ≡ what) b asks whats
what_at what (b ∷ asks) (suc k) a whats e = what_at what asks k a (All-tail (λ (x : Asked). x.what ≡
    what) b asks whats) e

-- where a receipt is put at the end
pub last_more : (dot : Dot) (xs : List ReceiptParts) (x : ReceiptParts) →
    last_of dot (xs ++ x ∷ []) ≡ (if same_dot x.dot dot then Some x else last_of dot xs)
last_more dot [] x = refl
last_more dot (y ∷ ys) x = elim (cases_Bool (same_dot x.dot dot)) [
  | inl t ↦ rw (last_more dot ys x, t) refl
  | inr f ↦ rw (last_more dot ys x, f) refl
]

-- no receipt is of a dot that no version has
no_receipt : (dot : Dot) (holder home : ℕ) (vs : List Version) → has_dot vs dot ≡ false →
    last_of dot (receipts_of vs holder home) ≡ None
no_receipt dot holder home [] e = refl
no_receipt dot holder home (v ∷ vs) e = elim (cases_Bool (same_dot v.dot dot)) [
  | inl t ↦ absurd (true≢false (rw t at e))
  | inr f ↦ (let rest : has_dot vs dot ≡ false = rw f at e in
      rw (no_receipt dot holder home vs rest, f) refl)
]

-- the receipts of a row's versions have one of the dot, of the row's key
last_receipt : (key : List ℕ) (dot : Dot) (holder home : ℕ) (vs : List Version) →
    All (λ v. v.key ≡ key) vs → IsTrue (has_dot vs dot)
    → last_of dot (receipts_of vs holder home) ≡ Some (receipt_parts key dot holder home)
last_receipt key dot holder home [] of has = absurd (true≢false (sym has))
last_receipt key dot holder home (v ∷ vs) of has = elim (cases_Bool (has_dot vs dot)) [
  | inl t ↦ (let rest = All-tail (λ (x : Version). x.key ≡ key) v vs of in
      rw (last_receipt key dot holder home vs rest t) refl)
  | inr f ↦ elim (cases_Bool (same_dot v.dot dot)) [
    | inl t ↦ (let k : v.key ≡ key = All-head (λ (x : Version). x.key ≡ key) v vs of in
        let d : v.dot ≡ dot = same_dot_is v.dot dot t in
        rw (no_receipt dot holder home vs f, t) (λ i. Some (receipt_parts (k i) (d i) holder home)))
    | inr g ↦ absurd (true≢false (sym has ∙ rw g f))
  ]
]

-- a version of the row has the dot
pub dot_in : (dot : Dot) (vs : List Version) (v : Version) → Contains vs v → v.dot ≡ dot →
    IsTrue (has_dot vs dot)
dot_in dot vs v in_row is =
    let P : Dot → Type 0 = λ d. same_dot v.dot d ≡ true in
    any_from (λ x. same_dot x.dot dot) vs v in_row (subst P is (same_dot_self v.dot))

-- those chosen from receipts of one key and dot are of them too
pub chosen_of : (key : List ℕ) (dot : Dot) (w : ℕ) (rs c : List ReceiptParts) → AreOf key dot rs →
    IsChoice w rs c → AreOf key dot c
chosen_of key dot w rs c of i = let P : ReceiptParts → Type 0 = λ x. (x.key ≡ key) × (x.dot ≡ dot)
    in
    λ k d lt. All-contains P rs (get_or c k d) of (i.among k d lt)

module _ {J : Type 0} where
  all_receipts : (P : ReceiptParts → Type 0) (key : List ℕ) (dot : Dot) (replies : List (Reply J)) →
      All (λ r. P (receipt_parts key dot r.node r.home)) replies → All P (receipts_read key dot
      replies)
  all_receipts P key dot [] a = All-nil P
  all_receipts P key dot (r ∷ replies) a =
      All-append P (receipt_read key dot r.node r.home r.answer.value) (receipts_read key dot
      replies)
      (one r.answer.value (All-head (λ (q : Reply J). P (receipt_parts key dot q.node q.home)) r
      replies a))
      (all_receipts P key dot replies (All-tail (λ (q : Reply J). P (receipt_parts key dot q.node
      q.home)) r replies a))
    where
      one : (x : Answer J) → P (receipt_parts key dot r.node r.home) → All P (receipt_read key dot
          r.node r.home x)
      one (Stored list) p = All-cons P (receipt_parts key dot r.node r.home) [] p (All-nil P)
      one (Rows seen) p = All-nil P
      one Down p = All-nil P
      one NoAnswer p = All-nil P
      one (Refused f) p = All-nil P

  known_of : (asks : List Asked) (r : Reply J) → IsReplyTo asks r → Known asks r.node r.home
  known_of asks r h = (r.number, h.0, h.1, h.2, h.3)

  -- a receipt more fits: its holder is asked for its home alone
  pub fits_reply : (key : List ℕ) (dot : Dot) (held c : ℕ) (asks : List Asked) (rest : List ℕ)
      (replies : List (Reply J)) (number node home : ℕ) (answer : Answer J)
      → IsDistinct nat_eq (c ∷ nodes_asked asks ++ rest) → All (IsReplyTo asks) replies → Answers
      asks number node home answer
      → FitsAll (receipt_parts key dot c held ∷ receipts_read key dot replies) (receipt_parts key
      dot node home)
  fits_reply key dot held c asks rest replies number node home answer distinct known new =
      let h : Apart (c ∷ nodes_asked asks ++ rest) = AllPairs-from_IsDistinct Decides-eqb
      (c ∷ nodes_asked asks ++ rest) distinct in
      let here : Known asks node home = (number, new.0, new.1, new.2, new.3) in
      All-cons (λ r. Agrees r (receipt_parts key dot node home)) (receipt_parts key dot c held)
      (receipts_read key dot replies)
      (refl, refl, (λ same. absurd (not_first c asks rest node home h here same)))
      (all_receipts (λ r. Agrees r (receipt_parts key dot node home)) key dot replies (λ k d lt. (
        refl,
        refl,
        (λ same.
            let P : ℕ → Type 0 = λ n. Known asks n (get_or replies k d).home in
            same_home asks node (get_or replies k d).home home (apart_front c (nodes_asked asks)
            rest h) (subst P same (known_of asks _ (known k d lt))) here),
      )))

  receipts_push : (key : List ℕ) (dot : Dot) (replies : List (Reply J)) (r : Reply J) →
      receipts_read key dot (replies ++ r ∷ []) ≡ receipts_read key dot replies ++ receipt_read key
      dot r.node r.home r.answer.value
  receipts_push key dot [] r = append-nil (receipt_read key dot r.node r.home r.answer.value)
  receipts_push key dot (q ∷ replies) r = ap (λ xs. receipt_read key dot q.node q.home
      q.answer.value ++ xs) (receipts_push key dot replies r)
      ∙ sym (append_assoc (receipt_read key dot q.node q.home q.answer.value) (receipts_read key dot
      replies) (receipt_read key dot r.node r.home r.answer.value))

  abbrev IsOneOrNone : List ℕ → Dot → ℕ → ℕ → Answer J → Type 0
  IsOneOrNone key dot node home x =
      ((receipt_at dot x ≡ Some (receipt_parts key dot node home)) × (receipt_read key dot node home
      x ≡ receipt_parts key dot node home ∷ [])) ⊎ ((receipt_at dot x ≡ None)
      × (receipt_read key dot node home x ≡ []))

  -- an answer to an ask to hold a row that has the dot has its receipt, where the node holds it
  one_what : (to home : ℕ) (w : What) (row : Siblings) (dot : Dot) (x : Answer J) → w ≡ Store
      (snapshot_of row) → All (λ v. v.key ≡ row.key) row.versions → IsTrue (has_dot row.versions
      dot)
      → FitsWhat to home w x → IsOneOrNone row.key dot to home x
  one_what to home w row dot (Stored list) e of has f =
      let P : What → Type 0 = λ y. FitsWhat {J = J} to home y (Stored list) in
      let g : list.items ≡ receipts_of row.versions to home = subst P e f in
      inl (ap (last_of dot) g ∙ last_receipt row.key dot to home row.versions of has, refl)
  one_what to home w row dot (Rows seen) e of has f = inr (refl, refl)
  one_what to home w row dot Down e of has f = inr (refl, refl)
  one_what to home w row dot NoAnswer e of has f = inr (refl, refl)
  one_what to home w row dot (Refused r) e of has f = inr (refl, refl)

  one_answer : (asks : List Asked) (row : Siblings) (dot : Dot) (number node home : ℕ)
      (x : Answer J) → All (λ a. a.what ≡ Store (snapshot_of row)) asks
      → All (λ v. v.key ≡ row.key) row.versions → IsTrue (has_dot row.versions dot) → Answers asks
      number node home x → IsOneOrNone row.key dot node home x
  one_answer asks row dot number node home x whats of has h =
      let P : ℕ → Type 0 = λ to. IsOneOrNone row.key dot to home x in
      let Q : ℕ → Type 0 = λ at. IsOneOrNone row.key dot h.0.to at x in
      subst P h.2 (subst Q h.3 (one_what h.0.to h.0.home h.0.what row dot x
      (what_at (Store (snapshot_of row)) asks number h.0 whats h.1) of has h.4))

  -- what the code takes from an answer
  pub took_some : (asks : List Asked) (row : Siblings) (dot : Dot) (number node home : ℕ)
      (x : Answer J) (o : Option ReceiptParts) (r : ReceiptParts) → All (λ a. a.what ≡ Store
      (snapshot_of row)) asks
      → All (λ v. v.key ≡ row.key) row.versions → IsTrue (has_dot row.versions dot) → Answers asks
      number node home x
      → o ≡ receipt_at dot x → o ≡ Some r → (r ≡ receipt_parts row.key dot node home)
      × (receipt_read row.key dot node home x ≡ r ∷ [])
  took_some asks row dot number node home x o r whats of has h took is = elim (one_answer asks row
      dot number node home x whats of has h) [
        | inl p ↦ (let e : o ≡ Some (receipt_parts row.key dot node home) = took ∙ p.0 in
            let s : r ≡ receipt_parts row.key dot node home = cc in (s, rw s p.1))
        | inr p ↦ absurd (let e : o ≡ None = took ∙ p.0 in cc)
      ]

  pub took_none : (asks : List Asked) (row : Siblings) (dot : Dot) (number node home : ℕ)
      (x : Answer J) (o : Option ReceiptParts) → All (λ a. a.what ≡ Store (snapshot_of row)) asks
      → All (λ v. v.key ≡ row.key) row.versions → IsTrue (has_dot row.versions dot) → Answers asks
      number node home x
      → o ≡ receipt_at dot x → ((s : ReceiptParts) → o ≡ Some s → ⊥) → receipt_read row.key dot node
      home x ≡ []
  took_none asks row dot number node home x o whats of has h took not = elim (one_answer asks row
      dot number node home x whats of has h) [
        | inl p ↦ absurd (not _ (took ∙ p.0))
        | inr p ↦ p.1
      ]

  pub added_more : (key : List ℕ) (dot : Dot) (replies more : List (Reply J)) (r : Reply J)
      (x : ReceiptParts) (own xs now : List ReceiptParts)
      → xs ≡ own ++ receipts_read key dot replies
      → receipt_read key dot r.node r.home r.answer.value ≡ x ∷ [] → now ≡ xs ++ x ∷ [] →
      more ≡ replies ++ r ∷ [] → now ≡ own ++ receipts_read key dot more
  added_more key dot replies more r x own xs now e f n m =
      rw (n, e, m, receipts_push key dot replies r, f)
      (append_assoc own (receipts_read key dot replies) (x ∷ []))

  pub added_same : (key : List ℕ) (dot : Dot) (replies more : List (Reply J)) (r : Reply J)
      (own xs : List ReceiptParts) → xs ≡ own ++ receipts_read key dot replies
      → receipt_read key dot r.node r.home r.answer.value ≡ [] → more ≡ replies ++ r ∷ [] →
      xs ≡ own ++ receipts_read key dot more
  added_same key dot replies more r own xs e f m = rw (e, m, receipts_push key dot replies r, f)
      (ap (λ ys. own ++ ys) (sym (append-nil (receipts_read key dot replies))))

  pub count_more : (first : ℕ) (replies more : List (Reply J)) (r : Reply J)
      (xs now : List ReceiptParts) (x : ReceiptParts) → length xs ≤ first + length replies →
      now ≡ xs ++ x ∷ [] → more ≡ replies ++ r ∷ [] → length now ≤ first + length more
  count_more first replies more r xs now x le n m =
      let a : length now ≡ length xs + 1 = ap length n ∙ length-append xs (x ∷ []) in
      let b : length more ≡ length replies + 1 = ap length m ∙ length-append replies (r ∷ []) in
      omega arith

  pub count_same : (first : ℕ) (replies more : List (Reply J)) (r : Reply J)
      (xs : List ReceiptParts) → length xs ≤ first + length replies → more ≡ replies ++ r ∷ [] →
      length xs ≤ first + length more
  count_same first replies more r xs le m = let b : length more ≡ length replies + 1 = ap length m
      ∙ length-append replies (r ∷ []) in omega arith

  -- all receipts of a put are of its key and dot
  pub all_of_one : (key : List ℕ) (dot : Dot) (held c : ℕ) (replies : List (Reply J)) → AreOf key
      dot (receipt_parts key dot c held ∷ receipts_read key dot replies)
  all_of_one key dot held c replies =
      let P : ReceiptParts → Type 0 = λ x. (x.key ≡ key) × (x.dot ≡ dot) in
      All-cons P (receipt_parts key dot c held) (receipts_read key dot replies) (refl, refl)
      (all_receipts P key dot replies (λ k d lt. (refl, refl)))
