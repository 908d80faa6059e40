-- What is settled so far, and by one settle more.
use Rattle.std.specs.Prelude.{◌≡◌, ◌≤◌, ◌+◌, ◌-◌, ◌^◌, ◌++◌, ◌∷◌, [], ℕ, List, length, min, Result}
use Rattle.std.specs.List.{All, AllPairs, fold}
use Rattle.dy_dots.specs.declared.faults.Fault.{Fault}
use Rattle.dy_node.specs.declared.asks.Answer.{Answer}
use Rattle.dy_node.specs.declared.asks.Answer.TheVariants.{Stored, Rows, Down, NoAnswer, Refused}
use Rattle.dy_transport.specs.Snapshots.{snapshot_of}
use Rattle.dy_transport.specs.Told.{Told, with_try}
use Rattle.dy_transport.specs.declared.replies.Reply.{Reply}
use Rattle.dy_transport.specs.declared.tries.Try.TheVariants.{Settle}
use Rattle.dy_reads.specs.Rules.{IsReplyTo}
use Rattle.dy_handoff.specs.Passes.{ReceiptList, released_of, settle_tries, stored_of}
use Rattle.dy_handoff.specs.declared.counts.Pass.{Pass}

-- the numbers are two
abbrev pub Differ : ℕ → ℕ → Type 0
Differ j k = j ≡ k → ⊥

module _ {J : Type 0} where
  -- the number of an ask whose answer brings receipts
  abbrev pub number_in : ℕ → Answer J → List ℕ
  number_in number (Stored receipts) = number ∷ []
  number_in number (Rows seen) = []
  number_in number Down = []
  number_in number NoAnswer = []
  number_in number (Refused f) = []

  -- the numbers of the asks whose answers brought receipts
  abbrev pub numbers_of : List (Reply J) → List ℕ
  numbers_of [] = []
  numbers_of (r ∷ replies) = number_in r.number r.answer.value ++ numbers_of replies

  -- a pass is under way: each ask was of a home for itself, and no ask was answered with receipts
  -- twice; so for each settle there is room; and the asks and the receipts are counted
  pub record IsUnderWay (told : Told J) (done : Pass) : Type 0 where
    pub known : All (IsReplyTo told.asks) told.replies
    pub apart : AllPairs Differ (numbers_of told.replies)
    pub homes : All (λ a. a.to ≡ a.home) told.asks
    pub few : length told.asks ≤ told.room
    pub tries : length told.tries ≤ 1 + length (stored_of told.replies)
    pub offers_are : done.offers ≡ length told.asks
    pub stored_are : done.stored ≡ length (stored_of told.replies)

  -- answers came, what each brought was settled, and what it gave up was added to what was given up
  -- before
  pub record Settles (node : ℕ) (old new : Told J) (before after : ℕ) : Type 0 where
    pub came : List (Reply J)
    pub gave : List (Result ℕ Fault)
    pub each : length gave ≡ length (stored_of came)
    pub replies : new.replies ≡ old.replies ++ came
    pub tries : new.tries ≡ old.tries ++ settle_tries node (stored_of came) gave
    pub after_is : after ≡ fold (λ n g. min (n + released_of g) (2 ^ 64 - 1)) before gave

  -- these receipts were settled, and what it gave up is added
  pub record SettlesOne (node : ℕ) (receipts : ReceiptList) (old new : Told J)
      (before after : ℕ) : Type 0 where
    pub gave : Result ℕ Fault
    pub told_is : new ≡ with_try old (Settle node (snapshot_of receipts) (snapshot_of gave))
    pub after_is : after ≡ min (before + released_of gave) (2 ^ 64 - 1)
