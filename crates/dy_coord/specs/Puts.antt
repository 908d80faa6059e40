-- What a put asks and reads.
use Rattle.std.specs.Prelude.{◌≡◌, ◌++◌, ◌∷◌, [], List, ℕ, map, nat_eq}
use Rattle.std.specs.List.{All, Contains, IsDistinct}
use Rattle.dy_dots.specs.declared.dots.Dot.{Dot}
use Rattle.dy_siblings.specs.Siblings.{Siblings}
use Rattle.dy_preference.specs.Preferences.{Preferred, home_for}
use Rattle.dy_shares.specs.Shares.{ReceiptParts, receipt_parts}
use Rattle.dy_node.specs.declared.asks.Answer.{Answer}
use Rattle.dy_node.specs.declared.asks.Answer.TheVariants.{Stored, Rows, Down, NoAnswer, Refused}
use Rattle.dy_transport.specs.Snapshots.{snapshot_of}
use Rattle.dy_transport.specs.Told.{Told}
use Rattle.dy_transport.specs.declared.asked.What.TheVariants.{Store}
use Rattle.dy_core.specs.declared.answers.AnswerKind.TheVariants as kind
use Rattle.dy_core.specs.declared.answers.AnswerRead.{AnswerRead}
use Rattle.dy_transport.specs.declared.replies.Reply.{Reply}
use Rattle.dy_reads.specs.Lists.{homes_in}
use Rattle.dy_quorum.specs.Tallies.{DoAgree}
use Rattle.dy_reads.specs.Rules.{AllUsed, AsksByRule, IsReadOut, IsReplyTo, as_read}

-- the coordinator's own answer, as a put lists it: it holds the row for its home
abbrev pub own_answer : Preferred → ℕ → AnswerRead
own_answer list c =
    record { place = record { holder = c; home = home_for (homes_in list) c }; kind = kind.Stored }

-- one of the answers says that its node holds the row for the home
pub record IsStoredFor (answers : List AnswerRead) (home : ℕ) : Type 0 where
  pub answer : AnswerRead
  pub in_list : Contains answers answer
  pub home_is : answer.place.home ≡ home
  pub kind_is : answer.kind ≡ kind.Stored

-- these homes are distinct, and for each a node answered that it holds the row
abbrev pub AreStoredFor : List AnswerRead → List ℕ → Type 0
AreStoredFor answers homes = IsDistinct nat_eq homes × All (IsStoredFor answers) homes

-- the coordinator's own receipt
abbrev pub own_receipt : Preferred → List ℕ → Dot → ℕ → ReceiptParts
own_receipt list key dot c = receipt_parts key dot c (home_for (homes_in list) c)

module _ {J : Type 0} where
  -- the receipt of the dot from the node for the home, where the node answered that it holds
  abbrev pub receipt_read : List ℕ → Dot → ℕ → ℕ → Answer J → List ReceiptParts
  receipt_read key dot node home (Stored list) = receipt_parts key dot node home ∷ []
  receipt_read key dot node home (Rows seen) = []
  receipt_read key dot node home Down = []
  receipt_read key dot node home NoAnswer = []
  receipt_read key dot node home (Refused f) = []

  -- the same of all answers, in their order
  abbrev pub receipts_read : List ℕ → Dot → List (Reply J) → List ReceiptParts
  receipts_read key dot [] = []
  receipts_read key dot (r ∷ replies) =
      receipt_read key dot r.node r.home r.answer.value ++ receipts_read key dot replies

  -- what a put asks and reads that began at this coordinator with this row: it asks by the rule,
  -- until nothing is left to read, and each answer is one to an ask; the receipts are the
  -- coordinator's own and those that came, and any two of them agree
  pub record Spreads (list : Preferred) (row : Siblings) (dot : Dot) (c : ℕ) (told : Told J)
      (added : List ReceiptParts) (answers : List AnswerRead) : Type 0 where
    pub asks : AsksByRule list (Store (snapshot_of row)) c told
    pub out : IsReadOut told
    pub used : AllUsed list (Store (snapshot_of row)) c told
    pub known : All (IsReplyTo told.asks) told.replies
    pub added_are :
        added ≡ own_receipt list row.key dot c ∷ receipts_read row.key dot told.replies
    pub agree : DoAgree added
    pub answers_are : answers ≡ own_answer list c ∷ map as_read told.replies
