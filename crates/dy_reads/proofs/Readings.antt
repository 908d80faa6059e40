-- Reading, answer by answer: what a loop keeps stays true with each answer that is read. While
-- nodes are left, each answer that does not serve is followed by a later ask for its home; so where
-- every ask is answered and a home is not served, no node is left.
use Rattle.std.proofs.Common.{◌*◌, ◌≡◌, ◌++◌, ◌∷◌, [], ◌<◌, ◌≤◌, ◌+◌, List, ℕ, true, false, zero}
use Rattle.std.proofs.Common.{suc, Some, length, map, get_or, refl, sym, ◌∙◌, ap, subst, arith}
use Rattle.std.proofs.Common.{length-append, append_assoc, inl, inr}
use Rattle.std.proofs.lemmas.Bool.{cases_Bool}
use Rattle.std.proofs.lemmas.List.{map-append, length-map, get_or-map}
use Rattle.std.proofs.lemmas.List.Elements.{All-push}
use Rattle.std.proofs.lemmas.Option.{slice_get_within}
use Rattle.std.specs.List.{All, Contains, slice_get}
use Rattle.dy_node.specs.declared.asks.Answer.{Answer}
use Rattle.dy_node.specs.declared.asks.Answer.TheVariants.{Down}
use Rattle.dy_transport.specs.declared.asked.Asked.{Asked}
use Rattle.dy_transport.specs.declared.asked.What.{What}
use Rattle.dy_core.specs.declared.answers.AnswerRead.{AnswerRead}
use Rattle.dy_transport.specs.declared.replies.Reply.{Reply}
use Rattle.dy_transport.specs.Told.{Told, reply}
use Rattle.dy_reads.specs.Rules.{ask_of, nodes_asked, is_served, after_reply, after_all, as_read}
use Rattle.dy_reads.specs.Rules.{Reads, IsReplyTo, HasRead, IsAskedLater, IsUnserved}

pub slice_get-grows : {X : Type 0} (xs ys : List X) (k : ℕ) (x : X) → slice_get xs k ≡ Some x →
    slice_get (xs ++ ys) k ≡ Some x
slice_get-grows [] ys k x e = absurd (cc)
slice_get-grows (y ∷ xs) ys zero x e = e
slice_get-grows (y ∷ xs) ys (suc k) x e = slice_get-grows xs ys k x e

pub slice_get-last : {X : Type 0} (xs : List X) (x : X) → slice_get (xs ++ x ∷ []) (length xs) ≡
    Some x
slice_get-last [] x = refl
slice_get-last (y ∷ xs) x = slice_get-last xs x

abbrev pub Pair : Type 0
Pair = List Asked × List ℕ

later_grows : (asks : List Asked) (b : Asked) (number home : ℕ) → IsAskedLater asks number home →
    IsAskedLater (asks ++ b ∷ []) number home
later_grows asks b number home h = (h.0, h.1, h.2, slice_get-grows asks (b ∷ []) h.0 h.1 h.3, h.4)

module _ {J : Type 0} where
  answers_grow : (asks : List Asked) (b : Asked) (r : Reply J) → IsReplyTo asks r → IsReplyTo
      (asks ++ b ∷ []) r
  answers_grow asks b r h = (h.0, slice_get-grows asks (b ∷ []) _ h.0 h.1, h.2, h.3, h.4)

  after_all-push : (what : What) (read : ℕ) (p : Pair) (replies : List (Reply J)) (r : Reply J)
      → after_all what read p (replies ++ r ∷ []) ≡ after_reply what (read + length replies + 1)
      (after_all what read p replies) r
  after_all-push what read p [] r = let e : suc read ≡ read + 0 + 1 = omega arith in
      ap (λ n. after_reply what n p r) e
  after_all-push what read p (q ∷ replies) r =
      let e : suc read + length replies + 1 ≡ read + suc (length replies) + 1 = omega arith in
      after_all-push what (suc read) (after_reply what (suc read) p q) replies r
      ∙ ap (λ n. after_reply what n (after_all what (suc read) (after_reply what (suc read) p q)
      replies) r) e

  -- the same from the start of a call
  after_all-more : (what : What) (p : Pair) (replies : List (Reply J)) (r : Reply J)
      → after_all what 0 p (replies ++ r ∷ []) ≡ after_reply what (length replies + 1)
      (after_all what 0 p replies) r
  after_all-more what p replies r = let e : 0 + length replies + 1 ≡ length replies + 1 =
      omega arith in
      after_all-push what 0 p replies r ∙ ap (λ n. after_reply what n (after_all what 0 p replies)
      r) e

  pub reading_start : (what : What) (asks : List Asked) (spare : List ℕ) → All (λ a. a.what ≡ what)
      asks → HasRead {J = J} what asks spare asks [] spare
  reading_start what asks spare whats = record {
    so_far = refl;
    whom = refl;
    first = λ k a e. e;
    whats = whats;
    known = λ k d lt. absurd (omega arith);
    count = omega arith;
    followed = λ left k d lt. absurd (omega arith);
  }

  -- one answer more that leads to no ask
  reading_same : (what : What) (from : List Asked) (spare : List ℕ) (asks : List Asked)
      (replies : List (Reply J)) (left : List ℕ) (r : Reply J)
      → HasRead what from spare asks replies left → IsReplyTo asks r → length replies < 2 * length
      asks → after_reply what (length replies + 1) (asks, left) r ≡ (asks, left)
      → ((left ≡ [] → ⊥) → is_served what r.answer.value ≡ true) → HasRead what from spare asks
      (replies ++ r ∷ []) left
  reading_same what from spare asks replies left r i h within same served =
      let l : length (replies ++ r ∷ []) ≡ length replies + 1 = length-append replies (r ∷ []) in
      record {
        so_far = sym (after_all-more what (from, spare) replies r ∙ (ap (λ (p : Pair). after_reply
            what (length replies + 1) p r) (sym i.so_far) ∙ same));
        whom = i.whom;
        first = i.first;
        whats = i.whats;
        known = All-push (IsReplyTo asks) replies r i.known h;
        count = omega arith;
        followed = λ some. All-push (λ (q : Reply J). is_served what q.answer.value ≡ false →
            IsAskedLater asks q.number q.home) replies r (i.followed some)
            (λ un. absurd (let s : is_served what r.answer.value ≡ true = served some in cc));
      }

  -- one answer more that leads to one ask
  reading_more : (what : What) (from : List Asked) (spare : List ℕ) (asks : List Asked)
      (replies : List (Reply J)) (s : ℕ) (left : List ℕ) (r : Reply J)
      → HasRead what from spare asks replies (s ∷ left) → IsReplyTo asks r → length replies < 2 *
      length asks → is_served what r.answer.value ≡ false
      → HasRead what from spare (asks ++ ask_of what s r.home (length replies + 1) ∷ [])
      (replies ++ r ∷ []) left
  reading_more what from spare asks replies s left r i h within un =
      let b : Asked = ask_of what s r.home (length replies + 1) in
      let l : length (replies ++ r ∷ []) ≡ length replies + 1 = length-append replies (r ∷ []) in
      let m : length (asks ++ b ∷ []) ≡ length asks + 1 = length-append asks (b ∷ []) in
      let some : (s ∷ left ≡ []) → ⊥ = λ e. absurd (cc) in
      record {
        so_far = sym (after_all-more what (from, spare) replies r ∙ (ap (λ (p : Pair). after_reply
            what (length replies + 1) p r) (sym i.so_far) ∙ rw un refl));
        whom = rw (map-append (λ (x : Asked). x.to) asks (b ∷ [])) (append_assoc (nodes_asked asks)
            (s ∷ []) left) ∙ i.whom;
        first = λ k a e. slice_get-grows asks (b ∷ []) k a (i.first k a e);
        whats = All-push (λ (a : Asked). a.what ≡ what) asks b i.whats refl;
        known = All-push (IsReplyTo (asks ++ b ∷ [])) replies r (λ k d lt. answers_grow asks b _
            (i.known k d lt)) (answers_grow asks b r h);
        count = omega arith;
        followed = λ _. All-push (λ (q : Reply J). is_served what q.answer.value ≡ false →
            IsAskedLater (asks ++ b ∷ []) q.number q.home) replies r
            (λ k d lt f. later_grows asks b _ _ (i.followed some k d lt f))
            (λ f. (
              length asks,
              b,
              slice_get_within asks r.number h.0 h.1,
              slice_get-last asks b,
              refl,
            ));
      }

  reading_after : (what : What) (from : List Asked) (spare : List ℕ) (asks : List Asked)
      (replies : List (Reply J)) (left : List ℕ) (r : Reply J)
      → HasRead what from spare asks replies left → IsReplyTo asks r → length replies < 2 * length
      asks
      → HasRead what from spare (after_reply what (length replies + 1) (asks, left) r).0
      (replies ++ r ∷ []) (after_reply what (length replies + 1) (asks, left) r).1
  reading_after what from spare asks replies [] r i h within =
      elim (cases_Bool (is_served what r.answer.value)) [
        | inl served ↦ rw served (reading_same what from spare asks replies [] r i h within
            (rw served refl) (λ _. served))
        | inr un ↦ rw un (reading_same what from spare asks replies [] r i h within (rw un refl)
            (λ some. absurd (some refl)))
      ]
  reading_after what from spare asks replies (s ∷ left) r i h within =
      elim (cases_Bool (is_served what r.answer.value)) [
        | inl served ↦ rw served (reading_same what from spare asks replies (s ∷ left) r i h within
            (rw served refl) (λ _. served))
        | inr un ↦ rw un (reading_more what from spare asks replies s left r i h within un)
      ]

  pub reading_step : (what : What) (from : List Asked) (spare : List ℕ) (old new : Told J)
      (left after : List ℕ) (number node home : ℕ) (answer : Answer J)
      → HasRead what from spare old.asks old.replies left → Reads what old left number node home
      answer new after → HasRead what from spare new.asks new.replies after
  reading_step what from spare old new left after number node home answer i r =
      let P : Pair → Type 0 = λ p. HasRead what from spare p.0 (old.replies ++ reply number node
      home answer ∷ []) p.1 in
      let Q : List (Reply J) → Type 0 = λ rs. HasRead what from spare new.asks rs after in
      subst Q (sym r.replies) (subst P (sym r.asks) (reading_after what from spare old.asks
      old.replies left (reply number node home answer) i r.answers r.within))

  -- the asks and the nodes left are as many as at first
  pub reading_count : (what : What) (from : List Asked) (spare : List ℕ) (asks : List Asked)
      (replies : List (Reply J)) (left : List ℕ)
      → HasRead what from spare asks replies left → length asks + length left ≡ length from + length
      spare
  reading_count what from spare asks replies left i =
      let e : length (nodes_asked asks ++ left) ≡ length (nodes_asked from ++ spare) = ap length
      i.whom in
      omega (
        arith,
        length-append (nodes_asked asks) left,
        length-append (nodes_asked from) spare,
        length-map asks (λ (a : Asked). a.to),
        length-map from (λ (a : Asked). a.to),
      )

  -- from each ask for a home that was not served there is a later one, while nodes are left
  climbs : (fuel : ℕ) (what : What) (from : List Asked) (spare : List ℕ) (asks : List Asked)
      (replies : List (Reply J)) (s : ℕ) (left : List ℕ) (home k : ℕ) (a : Asked)
      → HasRead what from spare asks replies (s ∷ left) → ((n : ℕ) → n < length asks → Contains
      (map (λ r. r.number) replies) n) → IsUnserved what replies home
      → length asks ≤ k + fuel → slice_get asks k ≡ Some a → a.home ≡ home → ⊥
  climbs zero what from spare asks replies s left home k a i answered un le at is =
      let lt : k < length asks = slice_get_within asks k a at in absurd (omega arith)
  climbs (suc fuel) what from spare asks replies s left home k a i answered un le at is =
      let lt : k < length asks = slice_get_within asks k a at in
      let c : Contains (map (λ (r : Reply J). r.number) replies) k = answered k lt in
      let d : Reply J = reply 0 0 0 Down in
      let n : length (map (λ (r : Reply J). r.number) replies) ≡ length replies = length-map replies
      (λ (r : Reply J). r.number) in
      let j : c.0 < length replies = (let m = c.1 in omega arith) in
      let r : Reply J = get_or replies c.0 d in
      let number : r.number ≡ k = sym (get_or-map (λ (q : Reply J). q.number) replies c.0 d k j)
      ∙ c.2 in
      let known : IsReplyTo asks r = i.known c.0 d j in
      let P : ℕ → Type 0 = λ m. slice_get asks m ≡ Some known.0 in
      let there : slice_get asks k ≡ Some known.0 = subst P number known.1 in
      let same : known.0 ≡ a = cc in
      let at_home : r.home ≡ home = sym known.3 ∙ (ap (λ (x : Asked). x.home) same ∙ is) in
      let some : (s ∷ left ≡ []) → ⊥ = λ e. absurd (cc) in
      let later : IsAskedLater asks r.number r.home = i.followed some c.0 d j (un c.0 d j at_home)
      in
      let above : k < later.0 = (let m = later.2 in omega arith) in
      climbs fuel what from spare asks replies s left home later.0 later.1 i answered un
      (omega arith) later.3 (later.4 ∙ at_home)

  -- where an ask was made for a home, each ask was answered and none for the home was served, no
  -- node is left
  pub none_left : (what : What) (from : List Asked) (spare : List ℕ) (asks : List Asked)
      (replies : List (Reply J)) (left : List ℕ) (home k : ℕ) (a : Asked)
      → HasRead what from spare asks replies left → ((n : ℕ) → n < length asks → Contains
      (map (λ r. r.number) replies) n) → IsUnserved what replies home
      → slice_get from k ≡ Some a → a.home ≡ home → left ≡ []
  none_left what from spare asks replies [] home k a i answered un at is = refl
  none_left what from spare asks replies (s ∷ left) home k a i answered un at is =
      absurd (climbs (length asks) what from spare asks replies s left home k a i answered un
      (omega arith) (i.first k a at) is)

  pub listed_more : (before now after : List AnswerRead) (replies more : List (Reply J))
      (r : Reply J) (x : AnswerRead) → after ≡ now ++ x ∷ [] → x ≡ as_read r → now ≡ before ++ map
      as_read replies → more ≡ replies ++ r ∷ []
      → after ≡ before ++ map as_read more
  listed_more before now after replies more r x a e n m = rw (
    a,
    e,
    n,
    m,
    map-append as_read replies
        (r ∷ []),
  ) (append_assoc before (map as_read replies) (as_read r ∷ []))

  pub len_more : (replies more : List (Reply J)) (r : Reply J) (before now after : ℕ) → after ≡ now
      + 1 → now ≡ before + length replies → more ≡ replies ++ r ∷ [] → after ≡ before + length more
  len_more replies more r before now after e h m = let l : length more ≡ length replies + 1 =
      ap length m ∙ length-append replies (r ∷ []) in omega arith
