-- What turns tell their session: each one get more at most, and one ack more at most.
use Rattle.std.proofs.Common.{◌≡◌, ◌+◌, ◌≤◌, ◌∷◌, [], List, ℕ, zero, suc, length, length-append}
use Rattle.std.proofs.Common.{Bool, Option, Some, None, Result, ap, arith, inl, inr}
use Rattle.std.specs.Prelude.{unwrap_or}
use Rattle.std.specs.FinSet as set
use Rattle.dy_dots.specs.Dots.{DotSet}
use Rattle.dy_dots.specs.declared.dots.Dot.{Dot}
use Rattle.dy_preference.specs.Preferences.{Preferred}
use Rattle.dy_shares.specs.Shares.{ReceiptParts, SessionPart, since_of}
use Rattle.dy_quorum.specs.Gatherings.{first_answers}
use Rattle.dy_transport.specs.Tellings.{IsAckTold}
use Rattle.dy_transport.specs.Told.{Told}
use Rattle.dy_transport.specs.declared.tries.Try.{Try}
use Rattle.dy_core.specs.declared.answers.AnswerRead.{AnswerRead}
use Rattle.dy_coord.specs.PutEnds.{EndsAfter, PutEnds}
use Rattle.dy_coord.specs.declared.put_results.PutDone.{PutDone}
use Rattle.dy_coord.specs.declared.put_results.PutFault.{PutFault}
use Rattle.dy_cluster.specs.Connections.{PutEndsAnew}
use Rattle.dy_cluster.specs.Lists.{list_of}
use Rattle.dy_cluster.specs.Settings.{Setting}
use Rattle.rand_pcg.specs.Lcg.{Lcg}
use Rattle.dy_storm.specs.Turns.{AreTurns, IsGetOf, IsPutOf, IsTurnOf}

-- the session was told so many gets and so many acks more at most
abbrev pub Grows : SessionPart → SessionPart → ℕ → ℕ → Type 0
Grows before after gets acks =
    (length after.gets ≤ length before.gets + gets)
    × (length after.acks ≤ length before.acks + acks)

unchanged : (before after : SessionPart) (gets acks : ℕ) → after ≡ before →
    Grows before after gets acks
unchanged before after gets acks same = (
  omega (arith, ap (λ (s : SessionPart). length s.gets) same),
  omega (arith, ap (λ (s : SessionPart). length s.acks) same),
)

-- an ack more
acked : (before after : SessionPart) (key : List ℕ) (dot : Dot) (w : ℕ)
    (spent : List ReceiptParts) → IsAckTold before after key dot w spent → Grows before after 0 1
acked before after key dot w spent is = (
  omega (arith, ap (λ (s : SessionPart). length s.gets) is.told),
  omega (
    arith,
    ap (λ (s : SessionPart). length s.acks) is.told,
    length-append before.acks
        (record { at = is.at; key = key; dot = dot; w = w } ∷ []),
  ),
)

ends : {J : Type 0} (key : List ℕ) (dot : Dot) (w : ℕ) (added : List ReceiptParts)
    (answers : List AnswerRead) (begins tries : List (Try J)) (before after : SessionPart)
    (answer : Result (PutDone J) PutFault)
    → EndsAfter key dot w added answers begins tries before after answer → Grows before after 0 1
ends key dot w added answers begins tries before after answer (inl (spent, last, ok)) =
    acked before after key ok.done.dot w ok.done.spent.items ok.tells.tells
ends key dot w added answers begins tries before after answer (inr (inl (same, why))) =
    unchanged before after 0 1 same
ends key dot w added answers begins tries before after answer (inr (inr (can, none, same, why))) =
    unchanged before after 0 1 same

-- a put tells its session one ack at most, and no get
put_grows : {J : Type 0} (list : Preferred) (w : ℕ) (key : List ℕ) (context : DotSet)
    (value : Option (List ℕ)) (before after : SessionPart) (old new : Told J)
    (answer : Result (PutDone J) PutFault)
    → PutEnds {J = J} list w key context value before after old new answer →
    Grows before after 0 1
put_grows list w key context value before after old new answer (inl (some, few, inl run)) =
    let put = run.2 in
    ends key run.1.dot w put.added put.answers put.begins new.tries before after answer put.ends
put_grows list w key context value before after old new answer (inl (some, few, inr early)) =
    unchanged before after 0 1 early.0
put_grows list w key context value before after old new answer (inr (out, same, still, why)) =
    unchanged before after 0 1 same

-- a put over a connection, which did not begin where memory was wanting
pub put_of : {J : Type 0} (list : Preferred) (key : List ℕ) (context : DotSet) (value : List ℕ)
    (before after : SessionPart) (old new : Told J) (answer : Result (PutDone J) PutFault)
    → PutEndsAnew {J = J} list 2 key context (Some value) before after old new answer →
    IsPutOf J list key context value before after
put_of list key context value before after old new answer (inl ends) =
    inl (record { room = old.room; told = new; answer = answer; ends = ends })
put_of list key context value before after old new answer (inr none) = inr none.0

-- so is the session told of what a turn puts
put_turn : (J : Type 0) (list : Preferred) (key : List ℕ) (context : DotSet) (value : List ℕ)
    (before after : SessionPart) → IsPutOf J list key context value before after →
    Grows before after 0 1
put_turn J list key context value before after (inl put) =
    put_grows {J = J} list 2 key context (Some value) before after _ put.told put.answer put.ends
put_turn J list key context value before after (inr same) = unchanged before after 0 1 same

-- and of what it gets
get_turn : (J : Type 0) (list : Preferred) (r : ℕ) (key : List ℕ) (context : Option DotSet)
    (before after : SessionPart) (mending : Told J) (is_mended : Bool)
    → IsGetOf J list r key context before after mending is_mended → Grows before after 1 0
get_turn J list r key None before after mending is_mended same = unchanged before after 1 0 same
get_turn J list r key (Some context) before after mending is_mended got =
    let heard = got.2.0.heard in (
      omega (
        arith,
        ap (λ (s : SessionPart). length s.gets) heard,
        length-append before.gets
            (record {
              since = since_of before;
              answers = first_answers got.0.seen.items;
              acks = length before.acks;
            } ∷ []),
      ),
      omega (arith, ap (λ (s : SessionPart). length s.acks) heard),
    )

-- a turn tells one get at most, and one ack
turn_grows : (s : Setting) (key value : List ℕ) (before after : SessionPart) (is_mended : Bool)
    → IsTurnOf s key value before after is_mended → Grows before after 1 1
turn_grows s key value before after is_mended t =
    let list = list_of s.ring s.n key in
    let got = get_turn s.book list s.r key t.context before t.between t.mending is_mended t.gets in
    let put = put_turn s.book list key (unwrap_or t.context set.empty) value t.between after t.puts in
    (omega (arith, got.0, put.0), omega (arith, got.1, put.1))

-- so many turns tell no more gets than that, and no more acks
pub turns_tell : (s : Setting) (generator : Lcg) (client turns : ℕ) (session : SessionPart)
    → AreTurns s generator client turns session →
    (length session.gets ≤ turns) × (length session.acks ≤ turns)
turns_tell s generator client zero session untold =
    (omega (arith, untold.1), omega (arith, untold.0))
turns_tell s generator client (suc turns) session (before, are, (is_mended, turn)) =
    let few = turns_tell s generator client turns before are in
    let more = turn_grows s _ _ before session is_mended turn in
    (omega (arith, few.0, more.0), omega (arith, few.1, more.1))
