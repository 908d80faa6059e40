-- Which hints a node gives up by receipts, and what it keeps then.
use Rattle.std.specs.Prelude.{◌≡◌, ◌↔◌, ◌⊎◌, ℕ, ◌==◌, ◌&&◌, Bool, true, false, IsTrue, List, []}
use Rattle.std.specs.Prelude.{◌∷◌, length, Option, Some}
use Rattle.std.specs.List.{All, Contains, list_any}
use Rattle.dy_dots.specs.Dots.{same_dot}
use Rattle.dy_dots.specs.declared.faults.Fault.{Fault}
use Rattle.dy_dots.specs.declared.faults.Fault.TheVariants.{OutOfMemory, StepsFull, Down}
use Rattle.dy_siblings.specs.Siblings.{same_key}
use Rattle.dy_node_store.specs.Rows.{without_dots}
use Rattle.dy_shares.specs.Shares.{NodePart, ReceiptParts, with_steps}
use Rattle.dy_book.specs.Books.{AreOfDistinctDots, BookParts, LacksRoom, release_steps}
use Rattle.dy_book.specs.Books.{with_untold}
use Rattle.dy_node.specs.Stored.{Rooms, stands, versions_at, with_row}
use Rattle.dy_node.specs.Nodes.{NodeState}

-- the receipt's dot stands in the hint for its home
abbrev pub IsStanding : Rooms → ReceiptParts → Type 0
IsStanding r x = IsTrue (stands r x.home x.key x.dot)

-- no receipt's dot stands in the hint for its home
abbrev pub NoneStands : Rooms → List ReceiptParts → Type 0
NoneStands r receipts = All (λ x. stands r x.home x.key x.dot ≡ false) receipts

-- whether two receipts are of one home, key and dot
abbrev pub same_release : ReceiptParts → ReceiptParts → Bool
same_release a b = (a.home == b.home) && (same_key a.key b.key && same_dot a.dot b.dot)

-- those of the receipts whose dot stands in the hint for their home, each home, key and dot once
pub record AreReleased (r : Rooms) (receipts released : List ReceiptParts) : Type 0 where
  pub each : All (λ x. Contains receipts x × IsStanding r x) released
  pub every : All (λ x. IsStanding r x → IsTrue (list_any (λ y. same_release y x) released))
      receipts
  pub apart : AreOfDistinctDots released

-- what is kept without the dots of the receipts
abbrev pub without_all : Rooms → List ReceiptParts → Rooms
without_all r [] = r
without_all r (x ∷ xs) =
    without_all
    (with_row r x.home x.key (without_dots (versions_at r x.home x.key) (x.dot ∷ []))) xs

-- one release for each receipted dot that stands in the hint for the receipt's home, and no other
pub record IsSettlement (b : BookParts) (p : NodePart) (r : Rooms) (receipts : List ReceiptParts)
    (count : ℕ) (c : BookParts) (q : NodePart) (t : Rooms) : Type 0 where
  pub released : List ReceiptParts
  pub are_released : AreReleased r receipts released
  pub count_is : count ≡ length released
  pub log : c ≡ with_untold b (release_steps p.node released)
  pub share : q ≡ with_steps p (release_steps p.node released)
  pub rooms : t ≡ without_all r released

-- when hints are not given up: where the steps left don't suffice for all of those that stand; want
-- of memory does not hide it
pub record ReleaseRefused (b : BookParts) (r : Rooms) (receipts : List ReceiptParts)
    (told : Option Fault) : Type 0 where
  pub steps_full : (told ≡ Some StepsFull)
      ↔ ((released : List ReceiptParts) × AreReleased r receipts released
      × LacksRoom b (length released))
  pub only : (f : Fault) → told ≡ Some f → (f ≡ StepsFull) ⊎ (f ≡ OutOfMemory)

-- when a node does not settle: where it is down, and else where the hints are not given up
pub record SettleRefused (b : BookParts) (n : NodeState) (receipts : List ReceiptParts)
    (told : Option Fault) : Type 0 where
  pub down : (told ≡ Some Down) ↔ (n.is_up ≡ false)
  pub up : n.is_up ≡ true → ReleaseRefused b n.rooms receipts told
