-- Audits: what a book tells as it ends.
use Rattle.std.specs.Prelude.{◌≡◌, ◌↔◌, IsTrue, ℕ, List, [], ◌∷◌, length, map}
use Rattle.std.specs.List.{All, Contains, sum_by}
use Rattle.dy_dots.specs.declared.dots.Dot.{Dot}
use Rattle.dy_siblings.specs.declared.versions.Version.{Version}
use Rattle.dy_ring.specs.Rings.{Tokens}
use Rattle.dy_core.specs.Worlds.{Layout, World, layout_of}
use Rattle.dy_core.specs.Covers.{AcksAreCovered}
use Rattle.dy_core.specs.Listings.{ListsHoldings, ListsAcks, ListsCovers, ListsSettled}
use Rattle.dy_core.specs.declared.acks.Acked.{Acked}
use Rattle.dy_core.specs.declared.holdings.Holding.{Holding}
use Rattle.dy_core.specs.declared.steps.Step.{Step}
use Rattle.dy_core.specs.Logs.{IsLegal, world_after}
use Rattle.dy_index.specs.Indexes.{IsIndex}
use Rattle.dy_shares.specs.Shares.{Account, AckTold, AreAll, IsAckOf, NodePart, SessionPart}
use Rattle.dy_shares.specs.Shares.{shows_held, steps_of}
use Rattle.dy_shares.specs.Numbers.{AreNumbersOf}
use Rattle.dy_shares.specs.Trails.{AreKept}
use Rattle.dy_shares.specs.declared.step_numbers.StepNumbers.{StepNumbers}
use Rattle.dy_book.specs.Books.{BookParts, world_of}
use Rattle.dy_book.specs.declared.audits.AckedAt.{AckedAt}
use Rattle.dy_book.specs.declared.audits.Audit.{Audit}
use Rattle.dy_book.specs.declared.histories.History.{History}

-- how many acks the sessions were told
abbrev pub count_acks : List SessionPart → ℕ
count_acks tellings = sum_by (λ s. length s.acks) tellings

-- how many gets the sessions were told
abbrev pub count_gets : List SessionPart → ℕ
count_gets tellings = sum_by (λ s. length s.gets) tellings

-- the book as its ledger is seen
abbrev pub account_of : BookParts → Account
account_of b = record { log = b.log; sessions = b.sessions }

-- the acks are those of the world, each once and in order, each with all places that cover it
pub record ListsCovered (w : World) (acked : List AckedAt) : Type 0 where
  pub acks : ListsAcks w (map (λ x. x.ack) acked)
  pub places : All (λ x. ListsCovers w x.ack.key x.ack.dot x.places.items) acked

-- the history keeps these steps, a legal log, and the index of the world after it
pub record IsHistoryOf (h : History) (steps : List Step) : Type 0 where
  pub layout : Layout
  pub legal : IsLegal layout steps
  pub kept : AreKept h.trail.items steps
  pub index : IsIndex (world_after steps) h.keys.entries

-- the numbers are those that these sessions were told, one session after another
abbrev pub AreTold : List StepNumbers → List SessionPart → Type 0
AreTold [] [] = Unit {0}
AreTold [] (s ∷ ss) = ⊥
AreTold (n ∷ ns) [] = ⊥
AreTold (n ∷ ns) (s ∷ ss) = AreNumbersOf n s × AreTold ns ss

-- but for its history, the audit tells what the book has, and what these sessions were told
pub record TellsNow (b : BookParts) (tellings : List SessionPart) (a : Audit) : Type 0 where
  pub held : ListsHoldings (world_of b) a.held.items
  pub acked : ListsCovered (world_of b) a.acked.items
  pub acks : a.acks ≡ count_acks tellings
  pub gets : a.gets ≡ count_gets tellings
  pub steps : a.steps ≡ length b.log
  pub settled : ListsSettled (world_of b) a.settled.items
  pub told : AreTold a.told.items tellings

-- the history has no step
abbrev pub HasNoStep : History → Type 0
HasNoStep h = h.trail.items ≡ []

-- the audit tells what the book has, each step of its log, and what these sessions were told
pub record Tells (b : BookParts) (tellings : List SessionPart) (a : Audit) : Type 0 where
  pub held : ListsHoldings (world_of b) a.held.items
  pub acked : ListsCovered (world_of b) a.acked.items
  pub acks : a.acks ≡ count_acks tellings
  pub gets : a.gets ≡ count_gets tellings
  pub steps : a.steps ≡ length b.log
  pub settled : ListsSettled (world_of b) a.settled.items
  pub history : IsHistoryOf a.history (steps_of b.log)
  pub told : AreTold a.told.items tellings

-- the list has a holding at this place with a version of this dot
pub record TellsHeld (held : List Holding) (holder home : ℕ) (key : List ℕ) (d : Dot) : Type 0 where
  pub holding : Holding
  pub in_list : Contains held holding
  pub holder_is : holding.holder ≡ holder
  pub home_is : holding.home ≡ home
  pub key_is : holding.row.key ≡ key
  pub version : Version
  pub in_row : Contains holding.row.versions version
  pub dot_is : version.dot ≡ d

-- one of these shares is the holder's, and shows that it holds the dot for the home
abbrev pub IsShown : List NodePart → ℕ → ℕ → List ℕ → Dot → Type 0
IsShown parts holder home key d =
    (p : NodePart) × Contains parts p × (p.node ≡ holder) × IsTrue (shows_held p home key d)

-- one of these sessions was told of the ack
abbrev pub IsTold : List SessionPart → Acked → Type 0
IsTold tellings x =
    (s : SessionPart) × Contains tellings s × ((t : AckTold) × Contains s.acks t × IsAckOf t x)

-- the audit lists the ack
abbrev pub ListsAck : Audit → Acked → Type 0
ListsAck a x = Contains (map (λ y. y.ack) a.acked.items) x

-- the shares are all that were given out; the audit tells what the book has; what is held is what
-- the nodes' shares show, and what is acknowledged is what the sessions were told; and each ack has
-- its cover
pub record IsAuditOf (ring : Tokens) (n r : ℕ) (b : BookParts) (parts : List NodePart)
    (tellings : List SessionPart) (a : Audit) : Type 0 where
  pub all : AreAll ring.nodes r (account_of b) parts tellings
  pub tells : Tells b tellings a
  pub held_shown : (holder home : ℕ) (key : List ℕ) (d : Dot) →
      TellsHeld a.held.items holder home key d ↔ IsShown parts holder home key d
  pub acked_told : (x : Acked) → ListsAck a x ↔ IsTold tellings x
  pub covered : AcksAreCovered (layout_of ring n) (world_of b)
