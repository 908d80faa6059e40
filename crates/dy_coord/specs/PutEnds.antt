-- How a put ends.
use Rattle.std.specs.Prelude.{◌≡◌, ◌<◌, ◌≤◌, ◌⊎◌, ◌++◌, ◌∷◌, [], List, ℕ, Option, Some, None}
use Rattle.std.specs.Prelude.{Result, Ok, Err}
use Rattle.std.specs.declared.alloc.Global.{Global}
use Rattle.std.specs.declared.vec.Vec.{Vec}
use Rattle.dy_dots.specs.Dots.{DotSet}
use Rattle.dy_dots.specs.declared.dots.Dot.{Dot}
use Rattle.dy_dots.specs.declared.faults.Fault.{Fault}
use Rattle.dy_dots.specs.declared.faults.Fault.TheVariants.{OutOfMemory, NoNode, NotEnough}
use Rattle.dy_dots.specs.declared.faults.Fault.TheVariants.{BadQuorum}
use Rattle.dy_preference.specs.Preferences.{Preferred, home_for}
use Rattle.dy_core.specs.Worlds.{Layout}
use Rattle.dy_shares.specs.Shares.{ReceiptParts, SessionPart}
use Rattle.dy_quorum.specs.Tallies.{CanChoose, IsChoice}
use Rattle.dy_node.specs.declared.begun.Begun.{Begun}
use Rattle.dy_transport.specs.Asking.{IsBegun}
use Rattle.dy_transport.specs.Refusals.{IsOfBegin, IsOfStep}
use Rattle.dy_transport.specs.Snapshots.{snapshot_of}
use Rattle.dy_transport.specs.Told.{Told}
use Rattle.dy_transport.specs.declared.tries.Try.{Try}
use Rattle.dy_transport.specs.declared.tries.Try.TheVariants.{Record}
use Rattle.dy_core.specs.declared.answers.AnswerRead.{AnswerRead}
use Rattle.dy_reads.specs.Lists.{homes_in}
use Rattle.dy_reads.specs.Tries.{TriesRefused, TriesAt, begin_try, downs}
use Rattle.dy_coord.specs.PutDones.{IsPutDone}
use Rattle.dy_coord.specs.Puts.{Spreads}
use Rattle.dy_coord.specs.declared.put_results.PutDone.{PutDone}
use Rattle.dy_coord.specs.declared.put_results.PutFault.{PutFault}

module _ {J : Type 0} where
  -- refused with this dot, and with these answers, for such a reason
  abbrev pub PutRefuses : Result (PutDone J) PutFault → Option Dot → List AnswerRead
      → (Fault → Type 0) → Type 0
  PutRefuses result dot answers IsReason =
      (e : PutFault) × (result ≡ Err e) × (e.dot ≡ dot) × (e.answers.items ≡ answers)
      × IsReason e.fault

  -- Ok with this dot, these receipts and these answers, and the session was told of that put
  pub record Acknowledges (key : List ℕ) (dot : Dot) (w : ℕ) (spent : List ReceiptParts)
      (answers : List AnswerRead) (before after : SessionPart)
      (result : Result (PutDone J) PutFault) : Type 0 where
    pub done : PutDone J
    pub result_is : result ≡ Ok done
    pub dot_is : done.dot ≡ dot
    pub spent_are : done.spent.items ≡ spent
    pub answers_are : done.answers.items ≡ answers
    pub tells : IsPutDone before after key w done

  -- the ack was tried, as the last try behind these, with w of the receipts that came, of distinct
  -- homes and distinct holders; and the try gave this
  pub record IsRecorded (w : ℕ) (added : List ReceiptParts) (before tries : List (Try J))
      (spent : Vec ReceiptParts Global) (gave : Result (Unit {0}) Fault) : Type 0 where
    pub choice : IsChoice w added spent.items
    pub last :
        tries ≡ before ++ Record w (snapshot_of spent) (snapshot_of gave) ∷ []

  -- a put that began: where w receipts of distinct homes and distinct holders can be chosen the ack
  -- is tried with such, and the put is acknowledged, or refused for what the try was, without
  -- answers; where not, nothing more is tried, there are not enough, and the answers are listed
  abbrev pub EndsAfter : List ℕ → Dot → ℕ → List ReceiptParts → List AnswerRead
      → List (Try J) → List (Try J) → SessionPart → SessionPart
      → Result (PutDone J) PutFault → Type 0
  EndsAfter key dot w added answers begins tries before after result =
      ((spent : Vec ReceiptParts Global) × IsRecorded w added begins tries spent (Ok tt)
      × Acknowledges key dot w spent.items answers before after result)
      ⊎ ((after ≡ before) × PutRefuses result (Some dot) [] (λ f. IsOfStep f
      × ((spent : Vec ReceiptParts Global) × IsRecorded w added begins tries spent (Err f))))
      ⊎ ((CanChoose w added → ⊥) × (tries ≡ begins) × (after ≡ before)
      × PutRefuses result (Some dot) answers (λ f. f ≡ NotEnough))

  -- what began at a coordinator: the first node that was not down made the version, for the home
  -- that it holds for, behind a log of a layout with these homes; its whole row was asked to be
  -- held; and how it ended
  pub record IsPut (list : Preferred) (w : ℕ) (key : List ℕ) (context : DotSet)
      (value : Option (List ℕ)) (before after : SessionPart) (told : Told J)
      (result : Result (PutDone J) PutFault) (c : ℕ) (begun : Begun J) : Type 0 where
    pub added : List ReceiptParts
    pub answers : List AnswerRead
    pub begins : List (Try J)
    pub begins_are : TriesAt (begin_try list key context value) list.nodes begins c (Ok begun)
    pub layout : Layout
    pub homes_are : layout.homes key ≡ homes_in list
    pub begun_is : IsBegun layout c (home_for (homes_in list) c) key context value begun
    pub spreads : Spreads list begun.row begun.dot c told added answers
    pub ends :
        EndsAfter key begun.dot w added answers begins told.tries before after result

  -- why a put asked nobody: want of memory before the first try, every node down, or what a begin
  -- was refused for
  abbrev pub EndsEarly : Preferred → List ℕ → DotSet → Option (List ℕ) → Told J → Fault → Type 0
  EndsEarly list key context value told f =
      ((f ≡ OutOfMemory) × (told.tries ≡ []))
      ⊎ ((f ≡ NoNode) × (told.tries ≡ downs (begin_try list key context value) list.nodes))
      ⊎ TriesRefused (begin_try list key context value) IsOfBegin list.nodes told.tries f

  -- a put that named a number of homes that there are: it began, or it asked nobody, made no
  -- version and told the session nothing
  abbrev pub PutRuns : Preferred → ℕ → List ℕ → DotSet → Option (List ℕ)
      → SessionPart → SessionPart → Told J → Result (PutDone J) PutFault → Type 0
  PutRuns list w key context value before after told result =
      ((c : ℕ) × (begun : Begun J)
      × IsPut list w key context value before after told result c begun)
      ⊎ ((after ≡ before) × (told.asks ≡ []) × (told.replies ≡ [])
      × PutRefuses result None [] (EndsEarly list key context value told))

  -- any number of homes but 1 to n is refused before anybody is tried or asked
  abbrev pub PutEnds : Preferred → ℕ → List ℕ → DotSet → Option (List ℕ)
      → SessionPart → SessionPart → Told J → Told J → Result (PutDone J) PutFault → Type 0
  PutEnds list w key context value before after old new result =
      ((1 ≤ w) × (w ≤ list.n) × PutRuns list w key context value before after new result)
      ⊎ (((w ≡ 0) ⊎ (list.n < w)) × (after ≡ before) × (new ≡ old)
      × PutRefuses result None [] (λ f. f ≡ BadQuorum))
