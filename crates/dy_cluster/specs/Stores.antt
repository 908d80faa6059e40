-- What the nodes of a cluster keep in their stores.
use Rattle.std.specs.Prelude.{◌≡◌, ◌↔◌, ℕ, IsTrue, List}
use Rattle.std.specs.List.{Contains}
use Rattle.dy_dots.specs.declared.dots.Dot.{Dot}
use Rattle.dy_siblings.specs.Siblings.{covers, has_dot}
use Rattle.dy_ring.specs.Rings.{Tokens}
use Rattle.dy_preference.specs.Preferences.{homes_of}
use Rattle.dy_core.specs.Covers.{AreCover}
use Rattle.dy_core.specs.declared.acks.Acked.{Acked}
use Rattle.dy_core.specs.declared.places.Place.{Place}
use Rattle.dy_shares.specs.Shares.{SessionPart}
use Rattle.dy_book.specs.Audits.{IsTold, ListsAck, TellsHeld}
use Rattle.dy_node.specs.Nodes.{RestState}
use Rattle.dy_node.specs.Stored.{versions_at}
use Rattle.dy_cluster.specs.declared.resting.Closed.{Closed}

-- one of these nodes is the holder, and keeps the dot's version of the key for the home
abbrev pub IsKept : List RestState → ℕ → ℕ → List ℕ → Dot → Type 0
IsKept rests holder home key d =
    (r : RestState) × Contains rests r × (r.stored.rooms.node ≡ holder)
    × IsTrue (has_dot (versions_at r.stored.rooms home key) d)

-- one of these nodes is the holder, and keeps for the home the dot's version of the key, or one
-- that causally follows it
abbrev pub KeepsCover : List RestState → ℕ → ℕ → List ℕ → Dot → Type 0
KeepsCover rests holder home key d =
    (r : RestState) × Contains rests r × (r.stored.rooms.node ≡ holder)
    × IsTrue (covers (versions_at r.stored.rooms home key) d)

-- so many places, each of one of the key's homes, with distinct homes and distinct holders, keep
-- the dot's version, or one that causally follows it (Dynamo, sections 4.5 and 4.6)
abbrev pub AreCovering : Tokens → ℕ → List RestState → List ℕ → Dot → ℕ → Type 0
AreCovering ring n rests key d count =
    (places : List Place)
    × AreCover (homes_of ring n key) (λ holder home. KeepsCover rests holder home key d)
    count places

-- the audit tells what the nodes' stores have: as held it lists exactly the versions that are kept,
-- each at its place; and each put that it lists as acknowledged is covered there, by as many homes
-- as it named, on as many nodes
pub record TellsStores (ring : Tokens) (n : ℕ) (closed : Closed) : Type 0 where
  pub held : (holder home : ℕ) (key : List ℕ) (d : Dot) →
      TellsHeld closed.audit.held.items holder home key d
      ↔ IsKept closed.rests.items holder home key d
  pub covered : (x : Acked) → ListsAck closed.audit x →
      AreCovering ring n closed.rests.items x.key x.dot x.w

-- as acknowledged the audit lists exactly what these sessions were told
abbrev pub TellsAcks : List SessionPart → Closed → Type 0
TellsAcks tellings closed = (x : Acked) → ListsAck closed.audit x ↔ IsTold tellings x
