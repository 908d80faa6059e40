-- The rows of a get, answer by answer: each is of the key and later than the session's since, and
-- with each that is read at most one home more has answered.
use Rattle.std.proofs.Common.{Some, ◌≡◌, ◌++◌, ◌∷◌, [], ◌<◌, ◌≤◌, ◌+◌, List, ℕ, zero, suc, length}
use Rattle.std.proofs.Common.{map, get_or, nat_eq, sym, ◌∙◌, ap, subst, arith, length-append}
use Rattle.std.proofs.Common.{append_assoc, inl, inr, Result, Ok, Err, IfOk, IfErr}
use Rattle.std.specs.Prelude.{◌≢◌}
use Rattle.std.proofs.lemmas.List.{append-nil, same_from_push}
use Rattle.std.proofs.lemmas.List.Elements.{All-nil, All-cons, All-append, All-head, All-tail}
use Rattle.std.proofs.lemmas.List.Elements.{All-contains}
use Rattle.std.specs.List.{All, IsDistinct, slice_get}
use Rattle.dy_dots.specs.declared.faults.Fault.TheVariants.{NotEnough, OutOfMemory}
use Rattle.dy_siblings.specs.Siblings.{IsSameRow, newest}
use Rattle.dy_preference.specs.Preferences.{Preferred, home_for}
use Rattle.dy_core.specs.Logs.{Answer as SeenParts, rows_of}
use Rattle.dy_quorum.specs.Firsts.{AreFirstsBy}
use Rattle.dy_quorum.specs.Gatherings.{AreUsed, answer_homes, answer_place, first_answers}
use Rattle.dy_quorum.proofs.Firsts.{are_firsts, distinct_by, few_push}
use Rattle.dy_node.specs.declared.asks.Answer.{Answer}
use Rattle.dy_node.specs.declared.asks.Answer.TheVariants.{Stored, Rows, Down, NoAnswer, Refused}
use Rattle.dy_transport.specs.Asking.{FitsWhat, IsSeenAt}
use Rattle.dy_transport.specs.Snapshots.{snapshot_of}
use Rattle.dy_transport.specs.Told.{Told}
use Rattle.dy_core.specs.declared.answers.AnswerRead.{AnswerRead}
use Rattle.dy_transport.specs.declared.asked.Asked.{Asked}
use Rattle.dy_transport.specs.declared.asked.What.{What}
use Rattle.dy_transport.specs.declared.asked.What.TheVariants.{Fetch}
use Rattle.dy_transport.specs.declared.replies.Reply.{Reply}
use Rattle.dy_reads.specs.Lists.{homes_in}
use Rattle.dy_reads.specs.Rules.{IsReplyTo}
use Rattle.dy_reads.specs.Tries.{TriesAt, look_try}
use Rattle.dy_coord.specs.Gets.{StopsSoon, seen_in, seens_of, Gathers, IsGot, IsGetRefused}
use Rattle.dy_coord.specs.inside.GetParts.{Collects, Finishes}
use Rattle.dy_coord.specs.declared.get_done.GetDone.{GetDone}
use Rattle.dy_coord.specs.declared.get_faults.GetFault.{GetFault}

-- of the key, and after so many steps
abbrev pub IsLaterOf : List ℕ → ℕ → SeenParts → Type 0
IsLaterOf key since s = (s.key ≡ key) × (since < s.at)

pub all_firsts : (P : SeenParts → Type 0) (ss : List SeenParts) → All P ss →
    All P (first_answers ss)
all_firsts P ss a k d lt =
    let are : AreFirstsBy (λ (s : SeenParts). s.home) ss (first_answers ss) =
    are_firsts (λ (s : SeenParts). s.home) ss in
    All-contains P ss (get_or (first_answers ss) k d) a (are.among k d lt)

pub firsts_apart : (ss : List SeenParts) → IsDistinct nat_eq (answer_homes (first_answers ss))
firsts_apart ss =
    let are : AreFirstsBy (λ (s : SeenParts). s.home) ss (first_answers ss) =
    are_firsts (λ (s : SeenParts). s.home) ss in
    distinct_by (λ (s : SeenParts). s.home) (first_answers ss) are.homes

pub are_used : (key : List ℕ) (r since : ℕ) (ss : List SeenParts) → length (first_answers ss) ≡ r →
    All (λ s. s.key ≡ key) ss → All (λ s. since < s.at) ss → AreUsed key r since (first_answers ss)
are_used key r since ss count keys later = record {
  count = count;
  of_key = all_firsts (λ s. s.key ≡ key) ss keys;
  homes = firsts_apart ss;
  later = all_firsts (λ s. since < s.at) ss later;
}

pub most_added : (r : ℕ) (seens now : List SeenParts) (s : SeenParts) →
    length (first_answers seens) < r → now ≡ seens ++ s ∷ [] → length (first_answers now) ≤ r
most_added r seens now s lt n =
    let P : List SeenParts → Type 0 = λ ss. length (first_answers ss) ≤ r in
    let a : length (first_answers (seens ++ s ∷ [])) ≤ length (first_answers seens) + 1 =
    few_push (λ (x : SeenParts). x.home) seens s in
    subst P (sym n) (omega arith)

pub what_at : (what : What) (asks : List Asked) (k : ℕ) (a : Asked) → All (λ b. b.what ≡ what) asks →
    slice_get asks k ≡ Some a → a.what ≡ what
what_at what [] k a whats e = absurd (cc)
what_at what (b ∷ asks) zero a whats e =
    let s : b ≡ a = cc in
    ap (λ (x : Asked). x.what) (sym s) ∙ All-head (λ (x : Asked). x.what ≡ what) b asks whats
what_at what (b ∷ asks) (suc k) a whats e =
    what_at what asks k a (All-tail (λ (x : Asked). x.what ≡ what) b asks whats) e

module _ {J : Type 0} where
  seens_push : (replies : List (Reply J)) (r : Reply J) →
      seens_of (replies ++ r ∷ []) ≡ seens_of replies ++ seen_in r.answer.value
  seens_push [] r = append-nil (seen_in r.answer.value)
  seens_push (q ∷ replies) r =
      ap (λ ss. seen_in q.answer.value ++ ss) (seens_push replies r)
      ∙ sym (append_assoc (seen_in q.answer.value) (seens_of replies) (seen_in r.answer.value))

  -- the row in an answer to a fetch of the key is of that key, and later than its step
  seen_fits : (to home : ℕ) (w : What) (key : List ℕ) (since : ℕ) (x : Answer J) →
      w ≡ Fetch (snapshot_of key) since → FitsWhat to home w x → All (IsLaterOf key since) (seen_in x)
  seen_fits to home w key since (Rows s) e f =
      let P : What → Type 0 = λ v. FitsWhat {J = J} to home v (Rows s) in
      let g : IsSeenAt to home key since s = subst P e f in
      All-cons (IsLaterOf key since) s [] (g.key_is, g.later) (All-nil (IsLaterOf key since))
  seen_fits to home w key since (Stored rs) e f = All-nil (IsLaterOf key since)
  seen_fits to home w key since Down e f = All-nil (IsLaterOf key since)
  seen_fits to home w key since NoAnswer e f = All-nil (IsLaterOf key since)
  seen_fits to home w key since (Refused g) e f = All-nil (IsLaterOf key since)

  pub seens_fit : (key : List ℕ) (since : ℕ) (asks : List Asked) (replies : List (Reply J)) →
      All (λ a. a.what ≡ Fetch (snapshot_of key) since) asks → All (IsReplyTo asks) replies →
      All (IsLaterOf key since) (seens_of replies)
  seens_fit key since asks [] whats known = All-nil (IsLaterOf key since)
  seens_fit key since asks (r ∷ replies) whats known =
      let h : IsReplyTo asks r = All-head (IsReplyTo asks) r replies known in
      All-append (IsLaterOf key since) (seen_in r.answer.value) (seens_of replies)
      (seen_fits h.0.to h.0.home h.0.what key since r.answer.value
      (what_at (Fetch (snapshot_of key) since) asks r.number h.0 whats h.1) h.4)
      (seens_fit key since asks replies whats (All-tail (IsReplyTo asks) r replies known))

  pub stops_none : (r : ℕ) (own : List SeenParts) → StopsSoon {J = J} r own []
  stops_none r own [] last e = absurd (cc)
  stops_none r own (q ∷ before) last e = absurd (cc)

  stops_more : (r : ℕ) (own : List SeenParts) (replies : List (Reply J)) (x : Reply J) →
      length (first_answers (own ++ seens_of replies)) < r → StopsSoon r own (replies ++ x ∷ [])
  stops_more r own replies x lt before last e =
      let P : List (Reply J) → Type 0 = λ rs. length (first_answers (own ++ seens_of rs)) < r in
      subst P (same_from_push replies before x last e).0 lt

  pub stops_after : (r : ℕ) (own seens : List SeenParts) (replies more : List (Reply J))
      (x : Reply J) → seens ≡ own ++ seens_of replies → length (first_answers seens) < r →
      more ≡ replies ++ x ∷ [] → StopsSoon r own more
  stops_after r own seens replies more x e lt m =
      let P : List (Reply J) → Type 0 = λ rs. StopsSoon r own rs in
      let Q : List SeenParts → Type 0 = λ ss. length (first_answers ss) < r in
      subst P (sym m) (stops_more r own replies x (subst Q e lt))

  pub seens_added : (own seens now : List SeenParts) (replies more : List (Reply J)) (x : Reply J)
      (s : SeenParts) → seens ≡ own ++ seens_of replies → seen_in x.answer.value ≡ s ∷ [] →
      now ≡ seens ++ s ∷ [] → more ≡ replies ++ x ∷ [] → now ≡ own ++ seens_of more
  seens_added own seens now replies more x s e f n m =
      rw (n, e, m, seens_push replies x, f) (append_assoc own (seens_of replies) (s ∷ []))

  pub seens_kept : (own seens : List SeenParts) (replies more : List (Reply J)) (x : Reply J) →
      seens ≡ own ++ seens_of replies → seen_in x.answer.value ≡ [] → more ≡ replies ++ x ∷ [] →
      seens ≡ own ++ seens_of more
  seens_kept own seens replies more x e f m =
      rw (e, m, seens_push replies x, f)
      (ap (λ ss. own ++ ss) (sym (append-nil (seens_of replies))))

  pub count_added : (seens now : List SeenParts) (replies more : List (Reply J)) (x : Reply J)
      (s : SeenParts) → length seens ≤ 1 + length replies → now ≡ seens ++ s ∷ [] →
      more ≡ replies ++ x ∷ [] → length now ≤ 1 + length more
  count_added seens now replies more x s le n m =
      let a : length now ≡ length seens + 1 = ap length n ∙ length-append seens (s ∷ []) in
      let b : length more ≡ length replies + 1 = ap length m ∙ length-append replies (x ∷ []) in
      omega arith

  pub count_kept : (seens : List SeenParts) (replies more : List (Reply J)) (x : Reply J) →
      length seens ≤ 1 + length replies → more ≡ replies ++ x ∷ [] →
      length seens ≤ 1 + length more
  count_kept seens replies more x le m =
      let b : length more ≡ length replies + 1 = ap length m ∙ length-append replies (x ∷ []) in
      omega arith

  -- how a get ends that r homes answered
  pub got : (list : Preferred) (key : List ℕ) (r since c : ℕ) (own : SeenParts) (told : Told J)
      (seens : List SeenParts) (answers : List AnswerRead) (result : Result (GetDone J) GetFault) →
      Gathers list key r since c own told seens answers →
      AreUsed key r since (first_answers seens) →
      IfOk result (λ done. Finishes since seens answers done) → IfOk result (λ done. done.row.key ≡ key) →
      IfOk result (λ done. IsGot list key r since told done)
  got list key r since c own told seens answers (Err e) gathers used ok is_of = tt
  got list key r since c own told seens answers (Ok done) gathers used ok is_of =
      let P : List SeenParts → Type 0 = λ xs. AreUsed key r since (first_answers xs) in
      let Q : List SeenParts → Type 0 = λ xs.
      IsSameRow done.row.versions (newest (rows_of (first_answers xs))) in
      let R : List SeenParts → Type 0 = λ xs. Gathers list key r since c own told xs answers in
      let S : List AnswerRead → Type 0 = λ xs.
      Gathers list key r since c own told done.seen.items xs in
      let same : seens ≡ done.seen.items = sym ok.seen in
      record {
        coordinator = c;
        own = own;
        gathers = subst S (sym ok.answers_are) (subst R same gathers);
        used = subst P same used;
        since_is = ok.since_is;
        from = ok.from ∙ ap (λ xs. map answer_place (first_answers xs)) same;
        row_key = is_of;
        row = subst Q same ok.row;
        context = ok.context;
      }

  pub lacking : (list : Preferred) (key : List ℕ) (r since c : ℕ) (own : SeenParts) (told : Told J)
      (seens : List SeenParts) (answers : List AnswerRead) (result : Result (GetDone J) GetFault) →
      Gathers list key r since c own told seens answers → length (first_answers seens) ≡ r →
      IfErr result (λ e. e.fault ≡ OutOfMemory) → IfErr result (λ e. e.answers.items ≡ []) →
      IfErr result (λ e. IsGetRefused list key r since told e)
  lacking list key r since c own told seens answers (Ok done) gathers enough memory none = tt
  lacking list key r since c own told seens answers (Err e) gathers enough memory none =
      inr (inl (record {
        coordinator = c;
        own = own;
        seens = seens;
        answers = answers;
        fault = memory;
        gathers = gathers;
        no_answers = none;
        enough = enough;
      }))

  -- what lists no answers lists none but for want of homes
  pub no_answers : (result : Result (GetDone J) GetFault) →
      IfErr result (λ e. e.answers.items ≡ []) →
      IfErr result (λ e. e.fault ≢ NotEnough → e.answers.items ≡ [])
  no_answers (Ok done) none = tt
  no_answers (Err e) none = λ _. none

  pub gathered : (list : Preferred) (key : List ℕ) (r since c : ℕ) (own : SeenParts)
      (told : Told J) (seens : List SeenParts) (answers : List AnswerRead) →
      TriesAt (look_try list key since) list.nodes told.tries c (Ok own) →
      IsSeenAt c (home_for (homes_in list) c) key since own →
      Collects list key r since c own told seens answers →
      Gathers list key r since c own told seens answers
  gathered list key r since c own told seens answers tries own_is x = record {
    tries = tries;
    own_is = own_is;
    asks = x.asks;
    known = x.known;
    seens_are = x.seens_are;
    for_homes = x.for_homes;
    answers_are = x.answers_are;
    stops = x.stops;
  }
