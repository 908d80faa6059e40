-- When a node refuses, and what: each by the refusal that a call answers, if any.
use Rattle.std.specs.Prelude.{◌≡◌, ℕ, ◌⊎◌, ◌↔◌, true, false, Option, Some, List}
use Rattle.dy_dots.specs.Dots.{DotSet}
use Rattle.dy_dots.specs.declared.dots.Dot.{Dot}
use Rattle.dy_dots.specs.declared.faults.Fault.{Fault}
use Rattle.dy_dots.specs.declared.faults.Fault.TheVariants.{OutOfMemory, CounterFull}
use Rattle.dy_dots.specs.declared.faults.Fault.TheVariants.{ContextUnknown, VersionsFull, NotIssued}
use Rattle.dy_dots.specs.declared.faults.Fault.TheVariants.{StepsFull, Down}
use Rattle.dy_siblings.specs.Siblings.{Siblings}
use Rattle.dy_core.specs.Worlds.{AreMadeOf}
use Rattle.dy_core.specs.Steps.{IsKnown}
use Rattle.dy_core.specs.Listings.{IsLeastUnknown}
use Rattle.dy_book.specs.Books.{BookParts, HasVersionsLeft, LacksRoom, world_of}
use Rattle.dy_index.specs.Readings.{IsLeastNotIssued}
use Rattle.dy_node.specs.Nodes.{NodeState, HasCounterLeft, LacksCounter}

-- when a row is not held: for its least dot that is not of the issued version, and else where no
-- step is left; want of memory hides neither
pub record HoldRefused (b : BookParts) (row : Siblings) (told : Option Fault) : Type 0 where
  pub not_issued : (d : Dot) → (told ≡ Some (NotIssued d))
      ↔ IsLeastNotIssued (world_of b).versions row.versions d
  pub steps_full : (told ≡ Some StepsFull)
      ↔ (AreMadeOf (world_of b) row.key row.versions × LacksRoom b 1)
  pub only : (f : Fault) → told ≡ Some f →
      ((d : Dot) × (f ≡ NotIssued d)) ⊎ ((f ≡ StepsFull) ⊎ (f ≡ OutOfMemory))

-- when a node does not store: where it is down, and else where the row is not held
pub record StoreRefused (b : BookParts) (n : NodeState) (row : Siblings) (told : Option Fault)
    : Type 0 where
  pub down : (told ≡ Some Down) ↔ (n.is_up ≡ false)
  pub up : n.is_up ≡ true → HoldRefused b row told

-- when a node does not answer a look: where it is down, and else where no step is left
pub record FetchRefused (b : BookParts) (n : NodeState) (told : Option Fault) : Type 0 where
  pub down : (told ≡ Some Down) ↔ (n.is_up ≡ false)
  pub steps_full : (told ≡ Some StepsFull) ↔ ((n.is_up ≡ true) × LacksRoom b 1)
  pub only : (f : Fault) → told ≡ Some f → (f ≡ Down) ⊎ ((f ≡ StepsFull) ⊎ (f ≡ OutOfMemory))

-- when a version is not made: where no counter is left, else for the least dot of the context that
-- is of no version, else where no version, and else where no two steps are left
pub record PlanRefused (b : BookParts) (node : ℕ) (key : List ℕ) (context : DotSet)
    (told : Option Fault) : Type 0 where
  pub counter_full : (told ≡ Some CounterFull) ↔ LacksCounter b node key
  pub context_unknown : (d : Dot) → (told ≡ Some (ContextUnknown d))
      ↔ (HasCounterLeft b node key × IsLeastUnknown (world_of b).versions key context d)
  pub versions_full : (told ≡ Some VersionsFull)
      ↔ (HasCounterLeft b node key
      × (IsKnown (world_of b) key context × (HasVersionsLeft b → ⊥)))
  pub steps_full : (told ≡ Some StepsFull)
      ↔ (HasCounterLeft b node key
      × (IsKnown (world_of b) key context × HasVersionsLeft b × LacksRoom b 2))
  pub only : (f : Fault) → told ≡ Some f →
      (f ≡ CounterFull) ⊎ (((d : Dot) × (f ≡ ContextUnknown d))
      ⊎ ((f ≡ VersionsFull) ⊎ ((f ≡ StepsFull) ⊎ (f ≡ OutOfMemory))))

-- when a node does not begin: where it is down, and else where the version is not made
pub record BeginRefused (b : BookParts) (n : NodeState) (key : List ℕ) (context : DotSet)
    (told : Option Fault) : Type 0 where
  pub down : (told ≡ Some Down) ↔ (n.is_up ≡ false)
  pub up : n.is_up ≡ true → PlanRefused b n.part.node key context told
