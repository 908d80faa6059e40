-- Answers in line. The number of a new ask is above that of each answer that was read or waits, so
-- what is put for it disturbs none of them; and an answer that is read was the first of its line,
-- so its number differs from those that wait there.
use Rattle.std.proofs.Common.{◌≡◌, ◌≢◌, ◌++◌, ◌<◌, ◌+◌, List, [], ◌∷◌, ℕ, zero, suc, Some}
use Rattle.std.proofs.Common.{length, map, refl, sym, ◌∙◌, ap, subst, arith, length-append}
use Rattle.std.proofs.Common.{append_assoc, below_more, get_or, IfSome, None, Option}
use Rattle.std.proofs.lemmas.List.{map-append, append-nil}
use Rattle.std.proofs.lemmas.List.Elements.{All-push, All-head, All-tail, Contains-append_left}
use Rattle.std.proofs.lemmas.List.Elements.{Contains-push}
use Rattle.std.proofs.lemmas.List.Quantifiers.{all_pairs_push}
use Rattle.std.proofs.lemmas.Option.{slice_get_within}
use Rattle.std.specs.List.{All, AllPairs, Contains, slice_get}
use Rattle.dy_node.specs.declared.asks.Ask.{Ask}
use Rattle.dy_node.specs.declared.asks.Answer.{Answer}
use Rattle.dy_node.specs.declared.asks.Answer.TheVariants.{NoAnswer}
use Rattle.dy_transport.specs.Asking.{asked, home_of, IsAnswerTo}
use Rattle.dy_transport.specs.Lines.{IsReadNext, LineParts, handed_on}
use Rattle.dy_transport.specs.Told.{Answers, IsAwaited, Told, reply, with_none, with_reply}
use Rattle.dy_transport.specs.inside.Lines.{AreOfTwoAsks, IsAnswerIn, IsBehind, IsLine}
use Rattle.dy_transport.specs.inside.Lines.{IsSecond, IsNotRead}
use Rattle.dy_transport.specs.declared.asked.Asked.{Asked}
use Rattle.dy_transport.specs.declared.lines.Waiting.{Waiting}
use Rattle.dy_transport.specs.declared.replies.Reply.{Reply}

slice_get_grows : {X : Type 0} (xs ys : List X) (k : ℕ) (x : X) →
    slice_get xs k ≡ Some x → slice_get (xs ++ ys) k ≡ Some x
slice_get_grows [] ys k x e = absurd (cc)
slice_get_grows (y ∷ xs) ys zero x e = e
slice_get_grows (y ∷ xs) ys (suc k) x e = slice_get_grows xs ys k x e

slice_get_last : {X : Type 0} (xs : List X) (x : X) → slice_get (xs ++ x ∷ []) (length xs) ≡ Some x
slice_get_last [] x = refl
slice_get_last (y ∷ xs) x = slice_get_last xs x

pairs_head : {X : Type 0} (R : X → X → Type 0) (x : X) (xs : List X) →
    AllPairs R (x ∷ xs) → All (R x) xs
pairs_head R x xs apart k d lt = apart 0 (suc k) d (omega arith) (omega arith)

pairs_tail : {X : Type 0} (R : X → X → Type 0) (x : X) (xs : List X) →
    AllPairs R (x ∷ xs) → AllPairs R xs
pairs_tail R x xs apart i j d lt within = apart (suc i) (suc j) d (omega arith) (omega arith)

-- with the next number each is contained
contains_more : (xs : List ℕ) (n m : ℕ) → m ≡ n → ((k : ℕ) → k < n → Contains xs k) →
    (k : ℕ) → k < n + 1 → Contains (xs ++ m ∷ []) k
contains_more xs n m e h =
    below_more _ _ (λ k lt. Contains-append_left xs (m ∷ []) k (h k lt))
    (let P : ℕ → Type 0 = λ x. Contains (xs ++ m ∷ []) x in subst P e (Contains-push xs m))

-- what is read moves from the one list of numbers to the other
contains_moved : (xs ys : List ℕ) (n k : ℕ) → Contains (xs ++ n ∷ ys) k →
    Contains ((xs ++ n ∷ []) ++ ys) k
contains_moved xs ys n k h =
    let P : List ℕ → Type 0 = λ zs. Contains zs k in subst P (sym (append_assoc xs (n ∷ []) ys)) h

-- a number below the next one is another
not_next : (n m k : ℕ) → n < m → k ≡ m → n ≡ k → ⊥
not_next n m k lt next same = absurd (omega arith)

module _ {J : Type 0} where
  abbrev numbered : Reply J → ℕ
  numbered r = r.number

  abbrev waits : Waiting J → ℕ
  waits w = w.number

  abbrev pub waiting : ℕ → ℕ → ℕ → Answer J → Waiting J
  waiting number node home x =
      record { number = number; node = node; home = home; answer = x }

  -- an answer to the ask of this number is that nothing came
  abbrev SaidNothing : ℕ → Reply J → Type 0
  SaidNothing number r = r.number ≡ number → r.answer.value ≡ NoAnswer

  abbrev IsOther : ℕ → Reply J → Type 0
  IsOther number r = r.number ≢ number

  -- what waits has a number below that of the next ask
  below : (asks : List Asked) (ws : List (Waiting J)) → All (IsAnswerIn asks) ws →
      All (λ w. w.number < length asks) ws
  below asks ws fit k d lt = let f = fit k d lt in slice_get_within asks _ f.0 f.1

  answers_grow : (asks : List Asked) (a : Asked) (ws : List (Waiting J)) →
      All (IsAnswerIn asks) ws → All (IsAnswerIn (asks ++ a ∷ [])) ws
  answers_grow asks a ws fit k d lt =
      let f = fit k d lt in (f.0, slice_get_grows asks (a ∷ []) _ f.0 f.1, f.2, f.3, f.4)

  answers_here : (asks : List Asked) (to : ℕ) (ask : Ask J) (read : ℕ) (x : Answer J) →
      IsAnswerTo to ask x →
      IsAnswerIn (asks ++ asked to ask read ∷ []) (waiting (length asks) to (home_of ask) x)
  answers_here asks to ask read x fits =
      (asked to ask read, slice_get_last asks (asked to ask read), refl, refl, fits)

  -- each ask has its first answer in line, where the new one has
  each_more : (replies : List (Reply J)) (first : List (Waiting J)) (w : Waiting J) (n : ℕ) →
      w.number ≡ n →
      ((k : ℕ) → k < n → Contains (map (λ r. r.number) replies ++ map (λ w. w.number) first) k) →
      (k : ℕ) → k < n + 1 →
      Contains (map (λ r. r.number) replies ++ map (λ w. w.number) (first ++ w ∷ [])) k
  each_more replies first w n next each k lt =
      let P : List ℕ → Type 0 = λ ys. Contains ys k in
      subst P (sym (ap (λ ys. map numbered replies ++ ys) (map-append waits first (w ∷ []))
      ∙ sym (append_assoc (map numbered replies) (map waits first) (w.number ∷ []))))
      (contains_more (map numbered replies ++ map waits first) n w.number next each k lt)

  unread_next : (replies : List (Reply J)) (n : ℕ) (w : Waiting J) → w.number ≡ n →
      All (λ r. r.number < n) replies → IsNotRead replies w
  unread_next replies n w next known k d lt same = not_next _ n w.number (known k d lt) next same

  awaited_next : (replies : List (Reply J)) (n m : ℕ) → m ≡ n → All (λ r. r.number < n) replies →
      IsAwaited replies m
  awaited_next replies n m next known k d lt same =
      absurd (not_next _ n m (known k d lt) next same)

  -- the second answers stay second where a first one comes with the next number
  second_stays : (replies : List (Reply J)) (first second : List (Waiting J)) (w : Waiting J)
      (n : ℕ) → w.number ≡ n → All (λ v. v.number < n) second →
      All (IsSecond replies first) second → All (IsSecond replies (first ++ w ∷ [])) second
  second_stays replies first second w n next within awaited k d lt =
      let v : Waiting J = get_or second k d in
      let old : IsSecond replies first v = awaited k d lt in (
        old.0,
        All-push (IsBehind v) first w old.1
            (λ same. absurd (not_next v.number n w.number (within k d lt) next (sym same))),
      )

  -- an ask comes, and its first answer waits
  put_one : (asks : List Asked) (room : ℕ) (replies : List (Reply J)) (a : Asked) (w : Waiting J)
      (first second : List (Waiting J)) → IsLine asks room replies first second →
      length asks < room → w.number ≡ length asks → IsAnswerIn (asks ++ a ∷ []) w →
      IsLine (asks ++ a ∷ []) room replies (first ++ w ∷ []) second
  put_one asks room replies a w first second l lt_room next fits =
      let la : length (asks ++ a ∷ []) ≡ length asks + 1 = length-append asks (a ∷ []) in
      let lf : length (first ++ w ∷ []) ≡ length first + 1 = length-append first (w ∷ []) in
      let c = l.count in let f = l.first_count in let s = l.second_count in
      record {
        first_fit = All-push (IsAnswerIn (asks ++ a ∷ [])) first w
            (answers_grow asks a first l.first_fit) fits;
        second_fit = answers_grow asks a second l.second_fit;
        each = λ k lt. each_more replies first w (length asks) next l.each k (omega arith);
        known = λ k d lt. let h = l.known k d lt in omega arith;
        unread = All-push (IsNotRead replies) first w l.unread
            (unread_next replies (length asks) w next l.known);
        awaited = second_stays replies first second w (length asks) next
            (below asks second l.second_fit) l.awaited;
        first_apart = all_pairs_push AreOfTwoAsks first w l.first_apart
            (λ k d lt same. not_next _ (length asks) w.number
            (below asks first l.first_fit k d lt) next same);
        second_apart = l.second_apart;
        count = omega arith;
        first_count = omega arith;
        second_count = omega arith;
        asks_count = omega arith;
      }

  -- an ask comes, and that nothing came waits for it, and a later answer
  put_two : (asks : List Asked) (room : ℕ) (replies : List (Reply J)) (a : Asked)
      (w v : Waiting J) (first second : List (Waiting J)) → IsLine asks room replies first second →
      length asks < room → w.number ≡ length asks → v.number ≡ length asks →
      IsAnswerIn (asks ++ a ∷ []) w → IsAnswerIn (asks ++ a ∷ []) v → w.answer ≡ NoAnswer →
      IsLine (asks ++ a ∷ []) room replies (first ++ w ∷ []) (second ++ v ∷ [])
  put_two asks room replies a w v first second l lt_room next later fits later_fits nothing =
      let one = put_one asks room replies a w first second l lt_room next fits in
      let la : length (asks ++ a ∷ []) ≡ length asks + 1 = length-append asks (a ∷ []) in
      let lf : length (first ++ w ∷ []) ≡ length first + 1 = length-append first (w ∷ []) in
      let ls : length (second ++ v ∷ []) ≡ length second + 1 = length-append second (v ∷ []) in
      let c = l.count in let f = l.first_count in let s = l.second_count in
      record {
        first_fit = one.first_fit;
        second_fit = All-push (IsAnswerIn (asks ++ a ∷ [])) second v one.second_fit later_fits;
        each = one.each;
        known = one.known;
        unread = one.unread;
        awaited = All-push (IsSecond replies (first ++ w ∷ [])) second v one.awaited (
          awaited_next replies (length asks) v.number later l.known,
          All-push (IsBehind v) first w
              (λ k d lt same. absurd (not_next _ (length asks) v.number
              (below asks first l.first_fit k d lt) later same))
              (λ _. nothing),
        );
        first_apart = one.first_apart;
        second_apart = all_pairs_push AreOfTwoAsks second v l.second_apart
            (λ k d lt same. not_next _ (length asks) v.number
            (below asks second l.second_fit k d lt) later same);
        count = omega arith;
        first_count = omega arith;
        second_count = omega arith;
        asks_count = omega arith;
      }

  -- the first answer in line is read
  pub reads_first : (asks : List Asked) (room : ℕ) (replies : List (Reply J)) (w : Waiting J)
      (first second : List (Waiting J)) → IsLine asks room replies (w ∷ first) second →
      IsLine asks room (replies ++ reply w.number w.node w.home w.answer ∷ []) first second
  reads_first asks room replies w first second l =
      let r : Reply J = reply w.number w.node w.home w.answer in
      let lr : length (replies ++ r ∷ []) ≡ length replies + 1 = length-append replies (r ∷ []) in
      let c = l.count in let f = l.first_count in
      let apart = pairs_head AreOfTwoAsks w first l.first_apart in
      let fits = All-head (IsAnswerIn asks) w first l.first_fit in
      record {
        first_fit = All-tail (IsAnswerIn asks) w first l.first_fit;
        second_fit = l.second_fit;
        each = λ k lt.
            let P : List ℕ → Type 0 = λ ys. Contains ys k in
            subst P (sym (ap (λ ys. ys ++ map waits first) (map-append numbered replies (r ∷ []))))
            (contains_moved (map numbered replies) (map waits first) w.number k (l.each k lt));
        known = All-push (λ q. q.number < length asks) replies r l.known
            (slice_get_within asks w.number fits.0 fits.1);
        unread = λ k d lt. All-push (IsOther (get_or first k d).number) replies r
            (All-tail (IsNotRead replies) w first l.unread k d lt) (apart k d lt);
        awaited = λ k d lt.
            let v : Waiting J = get_or second k d in
            let old : IsSecond replies (w ∷ first) v = l.awaited k d lt in (
              All-push (SaidNothing v.number) replies r old.0 (All-head (IsBehind v) w first old.1),
              All-tail (IsBehind v) w first old.1,
            );
        first_apart = pairs_tail AreOfTwoAsks w first l.first_apart;
        second_apart = l.second_apart;
        count = omega arith;
        first_count = omega arith;
        second_count = l.second_count;
        asks_count = l.asks_count;
      }

  -- the first of the second ones is read, where no first one waits
  pub reads_second : (asks : List Asked) (room : ℕ) (replies : List (Reply J)) (w : Waiting J)
      (first second : List (Waiting J)) → IsLine asks room replies first (w ∷ second) →
      length first ≡ 0 →
      IsLine asks room (replies ++ reply w.number w.node w.home w.answer ∷ []) first second
  reads_second asks room replies w (v ∷ first) second l none = absurd (omega arith)
  reads_second asks room replies w [] second l none =
      let r : Reply J = reply w.number w.node w.home w.answer in
      let lr : length (replies ++ r ∷ []) ≡ length replies + 1 = length-append replies (r ∷ []) in
      let c = l.count in let s = l.second_count in
      let apart = pairs_head AreOfTwoAsks w second l.second_apart in
      let fits = All-head (IsAnswerIn asks) w second l.second_fit in
      record {
        first_fit = l.first_fit;
        second_fit = All-tail (IsAnswerIn asks) w second l.second_fit;
        each = λ k lt.
            let P : List ℕ → Type 0 = λ ys. Contains ys k in
            subst P (ap (λ ys. ys ++ []) (sym (map-append numbered replies (r ∷ []))))
            (Contains-append_left (map numbered replies ++ w.number ∷ []) [] k
            (Contains-append_left (map numbered replies) (w.number ∷ []) k
            (let Q : List ℕ → Type 0 = λ ys. Contains ys k in
            subst Q (append-nil (map numbered replies)) (l.each k lt))));
        known = All-push (λ q. q.number < length asks) replies r l.known
            (slice_get_within asks w.number fits.0 fits.1);
        unread = λ k d none. absurd (omega arith);
        awaited = λ k d lt.
            let v : Waiting J = get_or second k d in
            let old : IsSecond replies [] v =
            All-tail (IsSecond replies []) w second l.awaited k d lt in (
              All-push (SaidNothing v.number) replies r old.0
                  (λ same. absurd (apart k d lt same)),
              old.1,
            );
        first_apart = l.first_apart;
        second_apart = pairs_tail AreOfTwoAsks w second l.second_apart;
        count = omega arith;
        first_count = l.first_count;
        second_count = omega arith;
        asks_count = l.asks_count;
      }

  -- an answer that is read as the first was the first to its ask
  pub first_reads : (asks : List Asked) (room : ℕ) (replies : List (Reply J)) (w : Waiting J)
      (first second : List (Waiting J)) → IsLine asks room replies (w ∷ first) second →
      Answers asks w.number w.node w.home w.answer × IsAwaited replies w.number
  first_reads asks room replies w first second l =
      let unread = All-head (IsNotRead replies) w first l.unread in (
        All-head (IsAnswerIn asks) w first l.first_fit,
        λ k d lt same. absurd (unread k d lt same),
      )

  -- before an answer that is read as a second one nothing came
  pub second_reads : (asks : List Asked) (room : ℕ) (replies : List (Reply J)) (w : Waiting J)
      (first second : List (Waiting J)) → IsLine asks room replies first (w ∷ second) →
      Answers asks w.number w.node w.home w.answer × IsAwaited replies w.number
  second_reads asks room replies w first second l =
      let awaited : IsSecond replies first w =
      All-head (IsSecond replies first) w second l.awaited in
      (All-head (IsAnswerIn asks) w second l.second_fit, awaited.0)

  -- with no first answer in line each ask was answered
  pub all_read : (asks : List Asked) (room : ℕ) (replies : List (Reply J))
      (first second : List (Waiting J)) → IsLine asks room replies first second →
      length first ≡ 0 →
      (k : ℕ) → k < length asks → Contains (map (λ r. r.number) replies) k
  all_read asks room replies (w ∷ first) second l none k lt = absurd (omega arith)
  all_read asks room replies [] second l none k lt =
      let P : List ℕ → Type 0 = λ ys. Contains ys k in
      subst P (append-nil (map numbered replies)) (l.each k lt)

  -- what `put` puts, with and without a later answer
  pub puts_one : (asks : List Asked) (room : ℕ) (replies : List (Reply J))
      (first second : List (Waiting J)) (to : ℕ) (ask : Ask J) (read number home : ℕ)
      (x : Answer J) → IsLine asks room replies first second → length asks < room →
      number ≡ length asks → home ≡ home_of ask → IsAnswerTo to ask x →
      IsLine (asks ++ asked to ask read ∷ []) room replies
      (first ++ waiting number to home x ∷ []) second
  puts_one asks room replies first second to ask read number home x l lt next same fits =
      let P : ℕ → ℕ → Type 0 =
      λ n h. IsAnswerIn (asks ++ asked to ask read ∷ []) (waiting n to h x) in
      let f = answers_here asks to ask read x fits in
      put_one asks room replies (asked to ask read) (waiting number to home x) first second l lt
      next (subst (λ n. P n home) (sym next) (subst (P (length asks)) (sym same) f))

  pub puts_two : (asks : List Asked) (room : ℕ) (replies : List (Reply J))
      (first second : List (Waiting J)) (to : ℕ) (ask : Ask J) (read number home : ℕ)
      (x y : Answer J) → IsLine asks room replies first second → length asks < room →
      number ≡ length asks → home ≡ home_of ask → IsAnswerTo to ask x → IsAnswerTo to ask y →
      x ≡ NoAnswer →
      IsLine (asks ++ asked to ask read ∷ []) room replies
      (first ++ waiting number to home x ∷ []) (second ++ waiting number to home y ∷ [])
  puts_two asks room replies first second to ask read number home x y l lt next same fits later
      nothing =
      let P : ℕ → ℕ → Answer J → Type 0 =
      λ n h z. IsAnswerIn (asks ++ asked to ask read ∷ []) (waiting n to h z) in
      let at : (z : Answer J) → IsAnswerTo to ask z → P number home z =
      λ z f. subst (λ n. P n home z) (sym next)
      (subst (λ h. P (length asks) h z) (sym same) (answers_here asks to ask read z f)) in
      put_two asks room replies (asked to ask read) (waiting number to home x)
      (waiting number to home y) first second l lt next next (at x fits) (at y later) nothing

-- what holds of a later answer, if there is one, holds of the one that there is
pub later_is : {X : Type 0} (P : X → Type 0) (later : Option X) (x : X) → later ≡ Some x →
    IfSome later P → P x
later_is {X = X} P later x e h =
    let Q : Option X → Type 0 = λ o. IfSome o P in subst Q e h

-- a list of no length is empty
nil_of : {X : Type 0} (xs : List X) → length xs ≡ 0 → xs ≡ []
nil_of [] none = refl
nil_of (x ∷ xs) none = absurd (omega arith)

module _ {J : Type 0} where
  -- the first of the first ones is read
  pub first_next : (told new : Told J) (all rest second : List (Waiting J)) (w : Waiting J) →
      all ≡ w ∷ rest → new ≡ with_reply told w.number w.node w.home w.answer →
      IsReadNext told all second (Some (handed_on w))
      (record { told = new; first = rest; second = second })
  first_next told new all rest second w is reads =
      let P : List (Waiting J) → Type 0 =
      λ ws. IsReadNext told ws second (Some (handed_on w))
      (record { told = new; first = rest; second = second }) in
      subst P (sym is) (refl, reads, refl, refl)

  -- the first of the second ones is read
  pub second_next : (told new : Told J) (first left all rest : List (Waiting J))
      (w : Waiting J) → length first ≡ 0 → first ≡ left → all ≡ w ∷ rest →
      new ≡ with_reply told w.number w.node w.home w.answer →
      IsReadNext told first all (Some (handed_on w))
      (record { told = new; first = left; second = rest })
  second_next told new first left all rest w none same is reads =
      let P : List (Waiting J) → List (Waiting J) → Type 0 =
      λ vs ws. IsReadNext told vs ws (Some (handed_on w))
      (record { told = new; first = left; second = rest }) in
      subst (P first) (sym is)
      (subst (λ vs. P vs (w ∷ rest)) (sym (nil_of first none))
      (refl, reads, sym same ∙ nil_of first none, refl))

  -- none is left
  pub none_next : (told new : Told J) (first left second others : List (Waiting J)) →
      length first ≡ 0 → length second ≡ 0 → first ≡ left → second ≡ others →
      new ≡ with_none told →
      IsReadNext told first second None (record { told = new; first = left; second = others })
  none_next told new first left second others none nor same alike is =
      let P : List (Waiting J) → List (Waiting J) → Type 0 =
      λ vs ws. IsReadNext told vs ws None
      (record { told = new; first = left; second = others }) in
      subst (P first) (sym (nil_of second nor))
      (subst (λ vs. P vs []) (sym (nil_of first none))
      (refl, is, sym same ∙ nil_of first none, sym alike ∙ nil_of second nor))

  -- the room is that of what is told
  pub room_left : {k l : LineParts J} → k ≡ l → length k.told.asks < k.told.room →
      length l.told.asks < l.told.room
  room_left is lt =
      let P : LineParts J → Type 0 = λ l. length l.told.asks < l.told.room in subst P is lt
