-- What a put takes from an answer.
use Rattle.std.specs.Prelude.{◌≡◌, ℕ, List, [], ◌∷◌, Option, Some, None, if◌then◌else◌, nat_eq}
use Rattle.std.specs.List.{IsDistinct}
use Rattle.std.specs.Option.{option_or}
use Rattle.dy_dots.specs.Dots.{same_dot}
use Rattle.dy_dots.specs.declared.dots.Dot.{Dot}
use Rattle.dy_shares.specs.Shares.{ReceiptParts, receipt_parts}
use Rattle.dy_node.specs.declared.asks.Answer.{Answer}
use Rattle.dy_node.specs.declared.asks.Answer.TheVariants.{Stored, Rows, Down, NoAnswer, Refused}
use Rattle.dy_transport.specs.Told.{Told}
use Rattle.dy_transport.specs.declared.tries.Try.{Try}

-- the last of these receipts that is of the dot
abbrev pub last_of : Dot → List ReceiptParts → Option ReceiptParts
last_of dot [] = None
last_of dot (x ∷ xs) = option_or (last_of dot xs) (if same_dot x.dot dot then Some x else None)

-- one receipt is counted, of this key and dot, and its holder and these nodes are all different
pub record HasOwnReceipt (key : List ℕ) (dot : Dot) (added : List ReceiptParts) (nodes : List ℕ)
    : Type 0 where
  pub holder : ℕ
  pub home : ℕ
  pub added_are : added ≡ receipt_parts key dot holder home ∷ []
  pub apart : IsDistinct nat_eq (holder ∷ nodes)

module _ {J : Type 0} where
  -- the receipt of the dot in an answer, where the node holds the row
  abbrev pub receipt_at : Dot → Answer J → Option ReceiptParts
  receipt_at dot (Stored list) = last_of dot list.items
  receipt_at dot (Rows seen) = None
  receipt_at dot Down = None
  receipt_at dot NoAnswer = None
  receipt_at dot (Refused f) = None

  -- what is told, with these tries
  abbrev pub with_tries : Told J → List (Try J) → Told J
  with_tries t tries = record t { tries = tries }
