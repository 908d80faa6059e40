-- What a node gives is what is asked for: whatever its mode, its first answer fits, and a second one
-- comes only after the news that nothing came; and what it begins has the version in its row.
use Rattle.std.proofs.Common.{◌≡◌, ℕ, List, [], ◌∷◌, ◌++◌, Bool, true, false, not, None, Some}
use Rattle.std.proofs.Common.{Option, refl, sym, true≢false, ◌∙◌, ⊎_elim}
use Rattle.std.proofs.Common.{ap, subst, Result, Ok, Err, IfOk, IfSome, IsTrue, OnOk}
use Rattle.std.specs.FinSet as set
use Rattle.std.specs.List.{Contains}
use Rattle.std.proofs.lemmas.List.Elements.{Contains-append_cases, Contains-append_left}
use Rattle.std.proofs.lemmas.List.Elements.{Contains-append_right}
use Rattle.dy_dots.specs.Dots.{DotSet}
use Rattle.dy_dots.specs.declared.faults.Fault.{Fault}
use Rattle.dy_siblings.specs.Siblings.{IsSameRow, merge}
use Rattle.dy_siblings.specs.declared.versions.Version.{Version}
use Rattle.dy_core.specs.Worlds.{Layout, row_at}
use Rattle.dy_core.specs.Steps.{version_made}
use Rattle.dy_core.specs.Logs.{IsLegal, world_after}
use Rattle.dy_core.specs.declared.steps.Step.{Step}
use Rattle.dy_core.proofs.Merging.{newest_same, same_row_on}
use Rattle.dy_shares.specs.Shares.{NodePart, receipt_parts}
use Rattle.dy_book.specs.Books.{BookParts}
use Rattle.dy_node.specs.Answers.{AnsweredBy, IsDone, IsDown, IsPutOff, IsRepeated}
use Rattle.dy_node.specs.Nodes.{NodeState}
use Rattle.dy_node.specs.declared.asks.Answer.{Answer}
use Rattle.dy_node.specs.declared.asks.Answer.TheVariants as answer
use Rattle.dy_node.specs.declared.asks.Ask.{Ask}
use Rattle.dy_node.specs.declared.asks.Ask.TheVariants.{Store, Fetch}
use Rattle.dy_node.specs.declared.begun.Begun.{Begun}
use Rattle.dy_modes.specs.declared.modes.Mode.{Mode}
use Rattle.dy_modes.specs.declared.modes.Mode.TheVariants.{Plain, Mute, Late, Repeat, Delay}
use Rattle.dy_transport.specs.Asking.{IsAnswerTo, IsBegun}

-- the same versions, beside the same others
same_beside : (xs ys zs : List Version) → IsSameRow xs ys → IsSameRow (xs ++ zs) (ys ++ zs)
same_beside xs ys zs same v = (
  (λ h. ⊎_elim (λ l. Contains-append_left ys zs v ((same v).0 l))
      (λ r. Contains-append_right ys zs v r) (Contains-append_cases xs zs v h)),
  (λ h. ⊎_elim (λ l. Contains-append_left xs zs v ((same v).1 l))
      (λ r. Contains-append_right xs zs v r) (Contains-append_cases ys zs v h)),
)

-- what is not false is true
pub not_false : (b : Bool) → false ≡ not b → b ≡ true
not_false true e = refl
not_false false e = absurd (cc)

module _ {J : Type 0} where
  nothing_fits : (to : ℕ) (ask : Ask J) → IsAnswerTo to ask answer.NoAnswer
  nothing_fits to (Store home row) = tt
  nothing_fits to (Fetch home key since) = tt

  down_fits : (to : ℕ) (ask : Ask J) (x : Answer J) → IsDown x → IsAnswerTo to ask x
  down_fits to ask (answer.Stored receipts) d = absurd d
  down_fits to ask (answer.Rows seen) d = absurd d
  down_fits to (Store home row) answer.Down d = tt
  down_fits to (Fetch home key since) answer.Down d = tt
  down_fits to ask answer.NoAnswer d = absurd d
  down_fits to ask (answer.Refused f) d = absurd d

  done_fits : (ask : Ask J) (old : NodeState) (b : BookParts) (new : NodeState) (c : BookParts)
      (x : Answer J) → IsDone ask old b new c x → IsAnswerTo old.part.node ask x
  done_fits (Store home row) old b new c (answer.Stored receipts) d = d.receipts_are
  done_fits (Store home row) old b new c (answer.Rows seen) d = absurd d
  done_fits (Store home row) old b new c answer.Down d = absurd d
  done_fits (Store home row) old b new c answer.NoAnswer d = absurd d
  done_fits (Store home row) old b new c (answer.Refused f) d = tt
  done_fits (Fetch home key since) old b new c (answer.Stored receipts) d = absurd d
  done_fits (Fetch home key since) old b new c (answer.Rows seen) d =
      record {
        holder_is = d.holder_is;
        home_is = d.home_is;
        key_is = d.key_is;
        later = d.later;
      }
  done_fits (Fetch home key since) old b new c answer.Down d = absurd d
  done_fits (Fetch home key since) old b new c answer.NoAnswer d = absurd d
  done_fits (Fetch home key since) old b new c (answer.Refused f) d = tt

  -- it is the same node after
  done_stays : (ask : Ask J) (old : NodeState) (b : BookParts) (new : NodeState) (c : BookParts)
      (x : Answer J) → IsDone ask old b new c x → new.part.node ≡ old.part.node
  done_stays (Store home row) old b new c (answer.Stored receipts) d =
      ap (λ (p : NodePart). p.node) d.share
  done_stays (Store home row) old b new c (answer.Rows seen) d = absurd d
  done_stays (Store home row) old b new c answer.Down d = absurd d
  done_stays (Store home row) old b new c answer.NoAnswer d = absurd d
  done_stays (Store home row) old b new c (answer.Refused f) d =
      ap (λ (n : NodeState). n.part.node) d.0
  done_stays (Fetch home key since) old b new c (answer.Stored receipts) d = absurd d
  done_stays (Fetch home key since) old b new c (answer.Rows seen) d =
      ap (λ (n : NodeState). n.part.node) d.node
  done_stays (Fetch home key since) old b new c answer.Down d = absurd d
  done_stays (Fetch home key since) old b new c answer.NoAnswer d = absurd d
  done_stays (Fetch home key since) old b new c (answer.Refused f) d =
      ap (λ (n : NodeState). n.part.node) d.0

  put_off_fits : (to : ℕ) (ask : Ask J) (old new : NodeState) (x : Answer J) →
      IsPutOff ask old new x → IsAnswerTo to ask x
  put_off_fits to ask old new (answer.Stored receipts) d = absurd d
  put_off_fits to ask old new (answer.Rows seen) d = absurd d
  put_off_fits to ask old new answer.Down d = absurd d
  put_off_fits to (Store home row) old new answer.NoAnswer d = tt
  put_off_fits to (Fetch home key since) old new answer.NoAnswer d = tt
  put_off_fits to (Store home row) old new (answer.Refused f) d = tt
  put_off_fits to (Fetch home key since) old new (answer.Refused f) d = tt

  repeated_fits : (ask : Ask J) (old : NodeState) (b : BookParts) (new : NodeState)
      (c : BookParts) (x : Answer J) → IsRepeated ask old b new c x →
      IsAnswerTo old.part.node ask x
  repeated_fits ask old b new c x d =
      subst (λ n. IsAnswerTo n ask x)
      (done_stays ask d.node d.book d.node_again d.book_again d.second d.is_second
      ∙ done_stays ask old b d.node d.book d.first d.is_first)
      (done_fits ask d.node_again d.book_again new c x d.is_third)

  nothing_else : (to : ℕ) (ask : Ask J) (x : Answer J) → x ≡ answer.NoAnswer →
      IsAnswerTo to ask x
  nothing_else to ask x is = subst (IsAnswerTo to ask) (sym is) (nothing_fits to ask)

  first_fits : (mode : Mode) (ask : Ask J) (old : NodeState) (b : BookParts) (new : NodeState)
      (c : BookParts) (first : Answer J) (second : Option (Answer J)) →
      AnsweredBy mode ask old b new c first second → IsAnswerTo old.part.node ask first
  first_fits Plain ask old b new c first second h = done_fits ask old b new c first h.1
  first_fits Mute ask old b new c first second h = nothing_else old.part.node ask first h.1
  first_fits Late ask old b new c first second h = nothing_else old.part.node ask first h.0
  first_fits Repeat ask old b new c first second h = repeated_fits ask old b new c first h.1
  first_fits Delay ask old b new c first second h =
      put_off_fits old.part.node ask old new first h.2

  -- what is said of a second answer holds where there is none
  of_none : (P : Answer J → Type 0) (second : Option (Answer J)) → second ≡ None →
      IfSome second P
  of_none P second none =
      let Q : Option (Answer J) → Type 0 = λ o. IfSome o P in subst Q (sym none) tt

  of_some : (P : Answer J → Type 0) (second : Option (Answer J)) (x : Answer J) →
      second ≡ Some x → P x → IfSome second P
  of_some P second x is h =
      let Q : Option (Answer J) → Type 0 = λ o. IfSome o P in subst Q (sym is) h

  second_fits : (mode : Mode) (ask : Ask J) (old : NodeState) (b : BookParts) (new : NodeState)
      (c : BookParts) (first : Answer J) (second : Option (Answer J)) →
      AnsweredBy mode ask old b new c first second →
      IfSome second (IsAnswerTo old.part.node ask) × IfSome second (λ _. first ≡ answer.NoAnswer)
  second_fits Plain ask old b new c first second h =
      (of_none _ second h.0, of_none (λ _. first ≡ answer.NoAnswer) second h.0)
  second_fits Mute ask old b new c first second h =
      (of_none _ second h.0, of_none (λ _. first ≡ answer.NoAnswer) second h.0)
  second_fits Late ask old b new c first second h = (
    of_some (IsAnswerTo old.part.node ask) second h.1.0 h.1.1
        (done_fits ask old b new c h.1.0 h.1.2),
    of_some (λ _. first ≡ answer.NoAnswer) second h.1.0 h.1.1 h.0,
  )
  second_fits Repeat ask old b new c first second h =
      (of_none _ second h.0, of_none (λ _. first ≡ answer.NoAnswer) second h.0)
  second_fits Delay ask old b new c first second h =
      (of_none _ second h.0, of_none (λ _. first ≡ answer.NoAnswer) second h.0)

  -- the answers of a node, whether it is up or down
  pub record AreAnswers (to : ℕ) (ask : Ask J) (first : Answer J) (second : Option (Answer J))
      : Type 0 where
    pub is_first : IsAnswerTo to ask first
    pub is_second : IfSome second (IsAnswerTo to ask)
    pub is_awaited : IfSome second (λ _. first ≡ answer.NoAnswer)

  by_flag : (is_up : Bool) (ask : Ask J) (old : NodeState) (b : BookParts) (new : NodeState)
      (c : BookParts) (first : Answer J) (second : Option (Answer J)) → old.is_up ≡ is_up →
      (old.is_up ≡ false → IsDown first) →
      (old.is_up ≡ false → (second ≡ None) × (new ≡ old) × (c ≡ b)) →
      (old.is_up ≡ true → AnsweredBy old.mode ask old b new c first second) →
      AreAnswers old.part.node ask first second
  by_flag false ask old b new c first second is down nothing up =
      let none = (nothing is).0 in
      record {
        is_first = down_fits old.part.node ask first (down is);
        is_second = of_none (IsAnswerTo old.part.node ask) second none;
        is_awaited = of_none (λ _. first ≡ answer.NoAnswer) second none;
      }
  by_flag true ask old b new c first second is down nothing up =
      let both = second_fits old.mode ask old b new c first second (up is) in
      record {
        is_first = first_fits old.mode ask old b new c first second (up is);
        is_second = both.0;
        is_awaited = both.1;
      }

  pub answers_fit : (ask : Ask J) (old : NodeState) (b : BookParts) (new : NodeState)
      (c : BookParts) (first : Answer J) (second : Option (Answer J)) →
      (old.is_up ≡ false → IsDown first) →
      (old.is_up ≡ false → (second ≡ None) × (new ≡ old) × (c ≡ b)) →
      (old.is_up ≡ true → AnsweredBy old.mode ask old b new c first second) →
      AreAnswers old.part.node ask first second
  answers_fit ask old b new c first second down nothing up =
      by_flag old.is_up ask old b new c first second refl down nothing up

  -- so does the one answer of a node that is up and in the plain mode
  pub plainly_fits : (ask : Ask J) (old : NodeState) (b : BookParts) (new : NodeState)
      (c : BookParts) (answer : Option (Answer J)) → IfSome answer (λ _. old.is_up ≡ true) →
      IfSome answer (λ a. AnsweredBy old.mode ask old b new c a None) →
      IfSome answer (λ a. IsAnswerTo old.part.node ask a)
  plainly_fits ask old b new c None up some = tt
  plainly_fits ask old b new c (Some a) up some =
      (answers_fit ask old b new c a None (λ down. absurd (true≢false (sym up ∙ down)))
      (λ down. absurd (true≢false (sym up ∙ down))) (λ _. some)).is_first

  -- what is begun, from the version that was made and from what was held
  pub begun_fits : (layout : Layout) (node home : ℕ) (key : List ℕ) (context : DotSet)
      (value : Option (List ℕ)) (log : List Step) (held : List Version) (v : Version)
      (r : Result (Begun J) Fault) → IsLegal layout log →
      v ≡ version_made (world_after log) node key context value →
      IsSameRow held (row_at (world_after log) node home key) →
      OnOk r (IsTrue (set.is_subset context v.past)) → IfOk r (λ b. b.dot ≡ v.dot) →
      IfOk r (λ b. b.row.key ≡ key) →
      IfOk r (λ b. IsSameRow b.row.versions (merge held (v ∷ []))) →
      IfOk r (λ b. Contains b.row.versions v) →
      IfOk r (λ b. b.receipt ≡ receipt_parts key v.dot node home) →
      IfOk r (λ b. IsBegun layout node home key context value b)
  begun_fits layout node home key context value log held v (Ok b) legal made holds follows dot
      row_key row in_row receipt =
      let row_at_node = row_at (world_after log) node home key in
      record {
        log = log;
        legal = legal;
        version = v;
        is_made = made;
        follows = follows;
        dot_is = sym dot;
        key_is = row_key;
        row_is = same_row_on b.row.versions (merge held (v ∷ [])) (merge row_at_node (v ∷ [])) row
            (newest_same (held ++ v ∷ []) (row_at_node ++ v ∷ [])
            (same_beside held row_at_node (v ∷ []) holds));
        in_row = in_row;
        receipt_is = receipt ∙ ap (λ d. receipt_parts key d node home) (sym dot);
      }
  begun_fits layout node home key context value log held v (Err f) legal made holds follows dot
      row_key row in_row receipt = tt
