-- What a node is seen as, and what its calls change.
use Rattle.std.specs.Prelude.{◌≡◌, ◌≢◌, ℕ, ◌≤◌, ◌<◌, ◌++◌, Bool, true, IsTrue, Option, List, []}
use Rattle.std.specs.Prelude.{◌∷◌, length, map, take, drop, refl}
use Rattle.std.specs.List.{All}
use Rattle.std.specs.Coded.{Coded, code_by, coded×, coded_bool, coded_list}
use Rattle.std.specs.FinMap as maps
use Rattle.dy_siblings.specs.Siblings.{Siblings, IsSameRow}
use Rattle.dy_siblings.specs.declared.versions.Version.{Version}
use Rattle.dy_dots.specs.Dots.{DotSet}
use Rattle.dy_hint_store.specs.Hints.{home_and_row}
use Rattle.dy_ring.specs.Rings.{Tokens}
use Rattle.dy_preference.specs.Preferences.{homes_of, may_hold}
use Rattle.dy_core.specs.Worlds.{World, row_at}
use Rattle.dy_core.specs.Steps.{version_made, place_for}
use Rattle.dy_core.specs.declared.steps.Step.{Step}
use Rattle.dy_core.specs.declared.steps.Step.TheVariants.{Hold, Fetch}
use Rattle.dy_shares.specs.Shares.{NodePart, with_steps}
use Rattle.dy_shares.specs.Codes.{node_part_code}
use Rattle.dy_book.specs.Books.{BookParts, with_untold, world_of}
use Rattle.dy_node.specs.Stored.{Rooms, Stored, empty_rooms, rooms_code, stored_code, versions_at}
use Rattle.dy_node.specs.contracts.messages.Message as message
use Rattle.dy_modes.specs.contracts.modes.Mode as modes
use Rattle.dy_node.specs.declared.messages.Message.{Message}
use Rattle.dy_modes.specs.declared.modes.Mode.{Mode}
use Rattle.dy_modes.specs.declared.modes.Mode.TheVariants.{Plain}

-- what a node is seen as: its share, the rows that it keeps, whether it is up, its mode, and the
-- messages that it stores later
pub record NodeState : Type 0 where
  pub part : NodePart
  pub rooms : Rooms
  pub is_up : Bool
  pub mode : Mode
  pub waiting : List Message

-- a node as plain data
abbrev pub node_code : Coded NodeState
node_code =
    code_by (NodePart × (Rooms × (Bool × (Mode × List Message))))
    (coded× node_part_code (coded× rooms_code (coded× coded_bool
    (coded× modes.the_row.coded (coded_list message.the_row.coded)))))
    (λ n. (n.part, (n.rooms, (n.is_up, (n.mode, n.waiting)))))
    (λ p. record {
      part = p.0;
      rooms = p.1.0;
      is_up = p.1.1.0;
      mode = p.1.1.1.0;
      waiting = p.1.1.1.1;
    })
    (λ _. refl)

-- what is left of a node without its share
pub record RestState : Type 0 where
  pub stored : Stored
  pub is_up : Bool
  pub mode : Mode
  pub waiting : List Message

-- the node is up, and does what it is asked
abbrev pub IsRestored : RestState → Type 0
IsRestored rest = (rest.is_up ≡ true) × (rest.mode ≡ Plain)

-- the rest of a node as plain data
abbrev pub rest_code : Coded RestState
rest_code =
    code_by (Stored × (Bool × (Mode × List Message)))
    (coded× stored_code (coded× coded_bool
    (coded× modes.the_row.coded (coded_list message.the_row.coded))))
    (λ n. (n.stored, (n.is_up, (n.mode, n.waiting))))
    (λ p. record { stored = p.0; is_up = p.1.0; mode = p.1.1.0; waiting = p.1.1.1 }) (λ _. refl)

-- a node that is up, and keeps nothing
abbrev pub first_state : NodePart → NodeState
first_state p = record {
  part = p;
  rooms = empty_rooms p.node;
  is_up = true;
  mode = Plain;
  waiting = [];
}

-- the node with its flag up, or down
abbrev pub with_up : NodeState → Bool → NodeState
with_up n is_up = record n { is_up = is_up }

-- the node with this mode
abbrev pub with_mode : NodeState → Mode → NodeState
with_mode n mode = record n { mode = mode }

-- the node with this message after those that wait
abbrev pub with_message : NodeState → Message → NodeState
with_message n m = record n { waiting = n.waiting ++ m ∷ [] }

-- the node may hold the row of each of the messages for its home
abbrev pub AreDeferred : Tokens → ℕ → ℕ → List Message → Type 0
AreDeferred ring n node ms = All (λ m. IsTrue (may_hold (homes_of ring n m.row.key) node m.home)) ms

-- the hints of a node, each with its home, by home and then by key
abbrev pub hints_of : NodeState → List (ℕ × Siblings)
hints_of n = map home_and_row (maps.entries n.rooms.hints)

-- each hint is for a home of its row's key
abbrev pub AreForHomes : Tokens → ℕ → List (ℕ × Siblings) → Type 0
AreForHomes ring n hints =
    All (λ h. IsTrue (may_hold (homes_of ring n h.1.key) h.0 h.0)) hints

-- each hint is for another node than this one, and has a version
abbrev pub AreForOthers : ℕ → List (ℕ × Siblings) → Type 0
AreForOthers node hints = All (λ h. (h.0 ≢ node) × (0 < length h.1.versions)) hints

-- what the node keeps is what the world holds at it: each version is the one that was made with its
-- dot
abbrev pub HoldsAs : World → NodeState → Type 0
HoldsAs w n =
    (home : ℕ) (key : List ℕ) → IsSameRow (versions_at n.rooms home key)
    (row_at w n.part.node home key)

-- the flag, the mode and the messages of both are the same
pub record OthersStay (old new : NodeState) : Type 0 where
  pub is_up : new.is_up ≡ old.is_up
  pub mode : new.mode ≡ old.mode
  pub waiting : new.waiting ≡ old.waiting

-- one hold, as steps
abbrev pub hold_steps : ℕ → ℕ → Siblings → List Step
hold_steps node home row = Hold (place_for node home) row ∷ []

-- one fetch, as steps
abbrev pub fetch_steps : ℕ → ℕ → List ℕ → List Step
fetch_steps node home key = Fetch (place_for node home) key ∷ []

-- a hold of each message
abbrev pub holds_of : ℕ → List Message → List Step
holds_of node ms = map (λ m. Hold (place_for node m.home) m.row) ms

-- the first n of the messages that wait are stored, one hold each, and no other
pub record IsDelivered (b : BookParts) (old : NodeState) (n : ℕ) (c : BookParts) (new : NodeState)
    : Type 0 where
  pub log : c ≡ with_untold b (holds_of old.part.node (take n old.waiting))
  pub share : new.part ≡ with_steps old.part (holds_of old.part.node (take n old.waiting))
  pub waiting : new.waiting ≡ drop n old.waiting
  pub is_up : new.is_up ≡ old.is_up
  pub mode : new.mode ≡ old.mode

-- the version that the node would make now
abbrev pub version_begun :
    BookParts → NodeState → List ℕ → DotSet → Option (List ℕ) → Version
version_begun b n key context value = version_made (world_of b) n.part.node key context value

-- a counter of the key is left to the node
abbrev pub HasCounterLeft : BookParts → ℕ → List ℕ → Type 0
HasCounterLeft b node key = (world_of b).counters node key < b.options.counter_limit

-- the node has used all counters of the key
abbrev pub LacksCounter : BookParts → ℕ → List ℕ → Type 0
LacksCounter b node key = b.options.counter_limit ≤ (world_of b).counters node key
