-- Whom a put and a get try.
use Rattle.std.specs.Prelude.{◌≡◌, ◌++◌, ◌∷◌, ◌<◌, [], List, ℕ, length, map, take, get_or}
use Rattle.std.specs.Prelude.{Option, Result, Ok, Err}
use Rattle.dy_dots.specs.Dots.{DotSet}
use Rattle.dy_dots.specs.declared.faults.Fault.{Fault}
use Rattle.dy_dots.specs.declared.faults.Fault.TheVariants.{Down}
use Rattle.dy_preference.specs.Preferences.{Preferred, home_for}
use Rattle.dy_core.specs.Logs.{Answer as SeenParts}
use Rattle.dy_node.specs.declared.begun.Begun.{Begun}
use Rattle.dy_transport.specs.Snapshots.{snapshot_of}
use Rattle.dy_transport.specs.declared.tries.Try.{Try}
use Rattle.dy_transport.specs.declared.tries.Try.TheVariants.{Begin, Look}
use Rattle.dy_reads.specs.Lists.{homes_in}
use Rattle.dy_reads.specs.declared.starts.Somewhere.{Somewhere}
use Rattle.dy_reads.specs.declared.starts.Somewhere.TheVariants.{At, NoNode, Refused}

module _ {J : Type 0} where
  -- a begin at a node, for the home that it holds for as a coordinator
  abbrev pub begin_try : Preferred → List ℕ → DotSet → Option (List ℕ) → ℕ
      → Result (Begun J) Fault → Try J
  begin_try list key context value node gave =
      Begin node (home_for (homes_in list) node)
      (snapshot_of key) (snapshot_of context) (snapshot_of value) (snapshot_of gave)

  -- a look at a node, for the home that it holds for as a coordinator
  abbrev pub look_try : Preferred → List ℕ → ℕ → ℕ → Result SeenParts Fault → Try J
  look_try list key since node gave =
      Look node (home_for (homes_in list) node) (snapshot_of key) since (snapshot_of gave)

module _ {J X : Type 0} where
  -- tries at nodes that are all down
  abbrev pub downs : (ℕ → Result X Fault → Try J) → List ℕ → List (Try J)
  downs tried nodes = map (λ node. tried node (Err Down)) nodes

  -- the tries are those at nodes that are down, in the list's order, and then that at this node,
  -- which gave this
  abbrev pub TriesAt : (ℕ → Result X Fault → Try J) → List ℕ → List (Try J) → ℕ
      → Result X Fault → Type 0
  TriesAt tried nodes tries c gave =
      (k : ℕ) × (k < length nodes) × (c ≡ get_or nodes k 0)
      × (tries ≡ downs tried (take k nodes) ++ tried c gave ∷ [])

  -- a node refused, and not by being down
  abbrev pub TriesRefused : (ℕ → Result X Fault → Try J) → (Fault → Type 0) → List ℕ
      → List (Try J) → Fault → Type 0
  TriesRefused tried IsOf nodes tries f =
      ((c : ℕ) × TriesAt tried nodes tries c (Err f)) × (f ≡ Down → ⊥) × IsOf f

  -- how the tries ended: at a node that gave this, at none since each was down, or by a refusal
  abbrev pub TriesEnd : (ℕ → Result X Fault → Try J) → (Fault → Type 0) → List ℕ
      → List (Try J) → Somewhere X → Type 0
  TriesEnd tried IsOf nodes tries (At c x) = TriesAt tried nodes tries c (Ok x)
  TriesEnd tried IsOf nodes tries NoNode = tries ≡ downs tried nodes
  TriesEnd tried IsOf nodes tries (Refused f) = TriesRefused tried IsOf nodes tries f

module _ {X : Type 0} where
  -- what is true of where it began, and of what was given there
  abbrev pub IfAt : Somewhere X → (ℕ → X → Type 0) → Type 0
  IfAt (At c x) P = P c x
  IfAt NoNode P = Unit {0}
  IfAt (Refused f) P = Unit {0}
