-- What a delivery tells.
use Rattle.std.specs.Prelude.{◌≡◌, ◌⊎◌, ℕ, length}
use Rattle.dy_dots.specs.declared.dots.Dot.{Dot}
use Rattle.dy_dots.specs.declared.faults.Fault.{Fault}
use Rattle.dy_dots.specs.declared.faults.Fault.TheVariants.{Down, NotIssued, OutOfMemory}
use Rattle.dy_dots.specs.declared.faults.Fault.TheVariants.{StepsFull}
use Rattle.dy_book.specs.Books.{BookParts}
use Rattle.dy_node.specs.Nodes.{IsDelivered, NodeState}

-- as many messages were stored as waited at a node, each by one hold, and no other
pub record IsDelivery (count : ℕ) : Type 0 where
  pub before : NodeState
  pub after : NodeState
  pub book : BookParts
  pub book_after : BookParts
  pub count_is : count ≡ length before.waiting
  pub delivered : IsDelivered book before count book_after after

-- why a node stores no more of its messages: it is down, the next has a version that was never
-- made, the steps are used up, or memory was wanting
abbrev pub IsDeliveryRefusal : Fault → Type 0
IsDeliveryRefusal f =
    (f ≡ Down) ⊎ ((d : Dot) × (f ≡ NotIssued d)) ⊎ (f ≡ StepsFull) ⊎ (f ≡ OutOfMemory)
