-- What a pass asks, settles and counts (Dynamo, section 4.6).
use Rattle.std.specs.Prelude.{◌≡◌, ◌≤◌, ◌+◌, ◌-◌, ◌^◌, ◌++◌, ◌∷◌, [], ℕ, List, length, min}
use Rattle.std.specs.Prelude.{take, Result, Ok, Err}
use Rattle.std.specs.List.{All, fold}
use Rattle.std.specs.declared.alloc.Global.{Global}
use Rattle.std.specs.declared.vec.Vec.{Vec}
use Rattle.dy_dots.specs.declared.faults.Fault.{Fault}
use Rattle.dy_siblings.specs.Siblings.{Siblings}
use Rattle.dy_shares.specs.Shares.{ReceiptParts}
use Rattle.dy_node.specs.declared.asks.Answer.{Answer}
use Rattle.dy_node.specs.declared.asks.Answer.TheVariants.{Stored, Rows, Down, NoAnswer, Refused}
use Rattle.dy_transport.specs.Snapshots.{snapshot_of}
use Rattle.dy_transport.specs.Told.{Told, nothing_told, with_none, with_try}
use Rattle.dy_transport.specs.declared.asked.Asked.{Asked}
use Rattle.dy_transport.specs.declared.asked.What.TheVariants.{Store}
use Rattle.dy_transport.specs.declared.replies.Reply.{Reply}
use Rattle.dy_transport.specs.declared.tries.Try.{Try}
use Rattle.dy_transport.specs.declared.tries.Try.TheVariants.{Offer, Settle}
use Rattle.dy_reads.specs.Rules.{ask_of, IsReadOut, IsReplyTo}
use Rattle.dy_handoff.specs.declared.counts.Pass.{Pass}

-- the receipts of one answer
abbrev pub ReceiptList : Type 0
ReceiptList = Vec ReceiptParts Global

-- the home of a hint is asked to hold its row for itself, after so many answers
abbrev pub offer_ask : ℕ × Siblings → ℕ → Asked
offer_ask hint read = ask_of (Store (snapshot_of hint.1)) hint.0 hint.0 read

-- how many dots a settle gave up: by a refusal none
abbrev pub released_of : Result ℕ Fault → ℕ
released_of (Ok n) = n
released_of (Err f) = 0

-- how many dots these settles gave up together, as far as a count reaches
abbrev pub released_in : List (Result ℕ Fault) → ℕ
released_in gave = fold (λ n g. min (n + released_of g) (2 ^ 64 - 1)) 0 gave

module _ {J : Type 0} where
  -- the receipts of an answer, if it brings some
  abbrev pub stored_in : Answer J → List ReceiptList
  stored_in (Stored receipts) = receipts ∷ []
  stored_in (Rows seen) = []
  stored_in Down = []
  stored_in NoAnswer = []
  stored_in (Refused f) = []

  -- the receipts that came, answer by answer
  abbrev pub stored_of : List (Reply J) → List ReceiptList
  stored_of [] = []
  stored_of (r ∷ replies) = stored_in r.answer.value ++ stored_of replies

  -- a settle at the node of just the receipts of each answer, in their order, which gave this
  abbrev pub settle_tries : ℕ → List ReceiptList → List (Result ℕ Fault) → List (Try J)
  settle_tries node [] gave = []
  settle_tries node (receipts ∷ more) [] = []
  settle_tries node (receipts ∷ more) (g ∷ gave) =
      Settle node (snapshot_of receipts) (snapshot_of g) ∷ settle_tries node more gave

  -- a hint is handed over: its home is asked, after all answers that were read before; answers of
  -- those asked come until none is left; and what each brings is settled at the node
  pub record HandsOver (node : ℕ) (hint : ℕ × Siblings) (old new : Told J) : Type 0 where
    pub came : List (Reply J)
    pub gave : List (Result ℕ Fault)
    pub each : length gave ≡ length (stored_of came)
    pub asks : new.asks ≡ old.asks ++ offer_ask hint (length old.replies) ∷ []
    pub replies : new.replies ≡ old.replies ++ came
    pub known : All (IsReplyTo new.asks) came
    pub out : IsReadOut new
    pub tries : new.tries ≡ old.tries ++ settle_tries node (stored_of came) gave

  -- hint after hint is handed over, the next one where the last one ended
  abbrev pub HandsOverInTurn : ℕ → List (ℕ × Siblings) → Told J → Told J → Type 0
  HandsOverInTurn node [] old new = new ≡ old
  HandsOverInTurn node (hint ∷ hints) old new =
      (mid : Told J) × HandsOver node hint old mid × HandsOverInTurn node hints mid new

  -- the hints were listed, and nothing was left to read
  abbrev pub listed : ℕ → Vec (ℕ × Siblings) Global → ℕ → Told J
  listed node hints room =
      with_none (with_try (nothing_told room) (Offer node (snapshot_of (Ok hints))))

  -- the node's hints were listed; the first, as many as there was room for, were handed over in
  -- turn; each answer was read, and what it brought was settled; it is counted so
  pub record IsPass (node : ℕ) (told : Told J) (done : Pass) : Type 0 where
    pub hints : Vec (ℕ × Siblings) Global
    pub gave : List (Result ℕ Fault)
    pub each : length gave ≡ length (stored_of told.replies)
    pub tries : told.tries ≡ Offer node (snapshot_of (Ok hints))
        ∷ settle_tries node (stored_of told.replies) gave
    pub turns : HandsOverInTurn node (take told.room hints.items)
        (listed node hints told.room) told
    pub known : All (IsReplyTo told.asks) told.replies
    pub out : IsReadOut told
    pub offers_are : done.offers ≡ length told.asks
    pub stored_are : done.stored ≡ length (stored_of told.replies)
    pub released_are : done.released ≡ released_in gave
    pub fewer : done.stored ≤ done.offers
