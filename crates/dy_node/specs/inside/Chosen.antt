-- Receipts that are taken in, one by one.
use Rattle.std.specs.Prelude.{◌≡◌, ℕ, Bool, ◌&&◌, ◌++◌, not, List, [], ◌∷◌, length, if◌then◌else◌}
use Rattle.std.specs.List.{list_any}
use Rattle.dy_shares.specs.Shares.{ReceiptParts}
use Rattle.dy_node.specs.Stored.{Rooms, stands}
use Rattle.dy_node.specs.Settling.{AreReleased, same_release}

-- whether the receipt's dot stands in the hint for its home, and none of the others is of it
abbrev pub is_new : Rooms → List ReceiptParts → ReceiptParts → Bool
is_new r others x =
    stands r x.home x.key x.dot && not (list_any (λ y. same_release y x) others)

-- with the receipt, where its dot stands in the hint for its home and is not there yet
abbrev pub taken : Rooms → List ReceiptParts → ReceiptParts → List ReceiptParts
taken r ys x = if is_new r ys x then ys ++ x ∷ [] else ys

-- so many dots of the receipts stand in the hint for their home
pub record AreCounted (r : Rooms) (receipts : List ReceiptParts) (count : ℕ) : Type 0 where
  pub released : List ReceiptParts
  pub are_released : AreReleased r receipts released
  pub count_is : count ≡ length released
