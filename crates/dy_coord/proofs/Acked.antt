-- What a session was told, by how a put ended.
use Rattle.std.proofs.Common.{◌≡◌, ◌∙◌, List, [], ◌∷◌, ℕ, Option, map, sym, ap, subst, inl}
use Rattle.std.proofs.Common.{inr, arith}
use Rattle.std.specs.Prelude.{◌≢◌, Result, Ok, Err, IfOk, IfErr, OnErr}
use Rattle.dy_dots.specs.declared.faults.Fault.TheVariants.{NotEnough}
use Rattle.dy_dots.specs.Dots.{DotSet}
use Rattle.dy_dots.specs.declared.dots.Dot.{Dot}
use Rattle.dy_preference.specs.Preferences.{Preferred}
use Rattle.dy_core.specs.declared.steps.Step.TheVariants.{Ack}
use Rattle.dy_shares.specs.Shares.{AckTold, ReceiptParts, SessionPart, greatest, since_of}
use Rattle.dy_shares.specs.Shares.{with_ack}
use Rattle.dy_shares.proofs.Sessions.{greatest-append}
use Rattle.dy_transport.specs.Tellings.{IsAckTold}
use Rattle.dy_transport.specs.Told.{Told}
use Rattle.dy_core.specs.declared.answers.AnswerRead.{AnswerRead}
use Rattle.dy_transport.specs.declared.tries.Try.{Try}
use Rattle.dy_coord.specs.PutDones.{IsPutDone}
use Rattle.dy_coord.specs.PutEnds.{EndsAfter, PutRuns}
use Rattle.dy_coord.specs.declared.put_results.PutDone.{PutDone}
use Rattle.dy_coord.specs.declared.put_results.PutFault.{PutFault}
use Rattle.std.proofs.lemmas.List.{map-append}

-- the ack is the last step that its session was told
pub ack_is_last : (before after : SessionPart) (key : List ℕ) (dot : Dot) (w : ℕ)
    (spent : List ReceiptParts) (is : IsAckTold before after key dot w spent) →
    since_of after ≡ is.at
ack_is_last before after key dot w spent is =
    let a : AckTold = record { at = is.at; key = key; dot = dot; w = w } in
    let numbers = ap greatest (map-append (λ (t : AckTold). t.at) before.acks (a ∷ []))
    ∙ greatest-append (map (λ t. t.at) before.acks) (is.at ∷ []) in
    let latest : since_of (with_ack before is.at (Ack key dot w) spent) ≡ is.at =
    omega (arith, numbers, is.later) in
    ap since_of is.told ∙ latest

-- but for want of homes no answers are listed
abbrev IsUnlisted : PutFault → Type 0
IsUnlisted e = e.fault ≢ NotEnough → e.answers.items ≡ []

module _ {J : Type 0} where
  -- what is said of an Ok is so of a refusal
  if_err : (P : PutDone J → Type 0) (result : Result (PutDone J) PutFault) (e : PutFault)
      → result ≡ Err e → IfOk result P
  if_err P result e is = subst (λ r. IfOk r P) (sym is) tt

  -- and what is so is so of a refusal
  on_err : (P : Type 0) (result : Result (PutDone J) PutFault) → P → OnErr result P
  on_err P (Ok x) p = tt
  on_err P (Err e) p = p

  ends_ok : (key : List ℕ) (dot : Dot) (w : ℕ) (added : List ReceiptParts)
      (answers : List AnswerRead) (begins tries : List (Try J)) (before after : SessionPart)
      (result : Result (PutDone J) PutFault)
      → EndsAfter key dot w added answers begins tries before after result
      → IfOk result (IsPutDone before after key w)
  ends_ok key dot w added answers begins tries before after result (inl (spent, last, ok)) =
      let P : PutDone J → Type 0 = IsPutDone before after key w in
      subst (λ r. IfOk r P) (sym ok.result_is) ok.tells
  ends_ok key dot w added answers begins tries before after result (inr (inl (same, why))) =
      if_err (IsPutDone before after key w) result why.0 why.1
  ends_ok key dot w added answers begins tries before after result
      (inr (inr (can, none, same, why))) =
      if_err (IsPutDone before after key w) result why.0 why.1

  -- an Ok has the dot of the put
  pub ends_dot : (key : List ℕ) (dot : Dot) (w : ℕ) (added : List ReceiptParts)
      (answers : List AnswerRead) (begins tries : List (Try J)) (before after : SessionPart)
      (result : Result (PutDone J) PutFault)
      → EndsAfter key dot w added answers begins tries before after result
      → IfOk result (λ done. done.dot ≡ dot)
  ends_dot key dot w added answers begins tries before after result (inl (spent, last, ok)) =
      let P : PutDone J → Type 0 = λ done. done.dot ≡ dot in
      subst (λ r. IfOk r P) (sym ok.result_is) ok.dot_is
  ends_dot key dot w added answers begins tries before after result (inr (inl (same, why))) =
      if_err (λ done. done.dot ≡ dot) result why.0 why.1
  ends_dot key dot w added answers begins tries before after result
      (inr (inr (can, none, same, why))) =
      if_err (λ done. done.dot ≡ dot) result why.0 why.1

  ends_err : (key : List ℕ) (dot : Dot) (w : ℕ) (added : List ReceiptParts)
      (answers : List AnswerRead) (begins tries : List (Try J)) (before after : SessionPart)
      (result : Result (PutDone J) PutFault)
      → EndsAfter key dot w added answers begins tries before after result
      → OnErr result (after ≡ before)
  ends_err key dot w added answers begins tries before after result (inl (spent, last, ok)) =
      subst (λ r. OnErr r (after ≡ before)) (sym ok.result_is) tt
  ends_err key dot w added answers begins tries before after result (inr (inl (same, why))) =
      on_err (after ≡ before) result same
  ends_err key dot w added answers begins tries before after result
      (inr (inr (can, none, same, why))) =
      on_err (after ≡ before) result same

  -- Ok tells that the session was told one ack more, of the dot
  pub acked_of : (list : Preferred) (w : ℕ) (key : List ℕ) (context : DotSet)
      (value : Option (List ℕ)) (before after : SessionPart) (told : Told J)
      (result : Result (PutDone J) PutFault)
      → PutRuns list w key context value before after told result
      → IfOk result (IsPutDone before after key w)
  acked_of list w key context value before after told result (inl (c, begun, put)) =
      ends_ok key begun.dot w put.added put.answers put.begins told.tries before after result
      put.ends
  acked_of list w key context value before after told result (inr (same, asks, replies, why)) =
      if_err (IsPutDone before after key w) result why.0 why.1

  -- a refusal tells that it was told nothing
  pub refused_of : (list : Preferred) (w : ℕ) (key : List ℕ) (context : DotSet)
      (value : Option (List ℕ)) (before after : SessionPart) (told : Told J)
      (result : Result (PutDone J) PutFault)
      → PutRuns list w key context value before after told result
      → OnErr result (after ≡ before)
  refused_of list w key context value before after told result (inl (c, begun, put)) =
      ends_err key begun.dot w put.added put.answers put.begins told.tries before after result
      put.ends
  refused_of list w key context value before after told result (inr (same, asks, replies, why)) =
      on_err (after ≡ before) result same

  ends_without_answers : (key : List ℕ) (dot : Dot) (w : ℕ) (added : List ReceiptParts)
      (answers : List AnswerRead) (begins tries : List (Try J)) (before after : SessionPart)
      (result : Result (PutDone J) PutFault)
      → EndsAfter key dot w added answers begins tries before after result
      → IfErr result IsUnlisted
  ends_without_answers key dot w added answers begins tries before after result
      (inl (spent, last, ok)) =
      subst (λ r. IfErr r IsUnlisted) (sym ok.result_is) tt
  ends_without_answers key dot w added answers begins tries before after result
      (inr (inl (same, (e, is, dot_is, none, why)))) =
      subst (λ r. IfErr r IsUnlisted) (sym is) (λ _. none)
  ends_without_answers key dot w added answers begins tries before after result
      (inr (inr (can, last, same, (e, is, dot_is, listed, want)))) =
      subst (λ r. IfErr r IsUnlisted) (sym is) (λ other. absurd (other want))

  pub no_answers_of : (list : Preferred) (w : ℕ) (key : List ℕ) (context : DotSet)
      (value : Option (List ℕ)) (before after : SessionPart) (told : Told J)
      (result : Result (PutDone J) PutFault)
      → PutRuns list w key context value before after told result
      → IfErr result IsUnlisted
  no_answers_of list w key context value before after told result (inl (c, begun, put)) =
      ends_without_answers key begun.dot w put.added put.answers put.begins told.tries before after
      result
      put.ends
  no_answers_of list w key context value before after told result
      (inr (same, asks, replies, (e, is, dot_is, none, why))) =
      subst (λ r. IfErr r IsUnlisted) (sym is) (λ _. none)
