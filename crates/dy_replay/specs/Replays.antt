-- What the world of a closed cluster's steps has.
use Rattle.std.specs.Prelude.{◌≡◌, ◌↔◌, ℕ, ◌≤◌, ◌==◌, Bool, ◌&&◌, false, IsTrue, List, length, map}
use Rattle.std.specs.List.{All, filter}
use Rattle.dy_dots.specs.declared.dots.Dot.{Dot}
use Rattle.dy_siblings.specs.Siblings.{same_key}
use Rattle.dy_ring.specs.Rings.{Tokens}
use Rattle.dy_core.specs.Worlds.{is_issued}
use Rattle.dy_core.specs.Listings.{ListsHoldings, ListsAcks, ListsCovers, ListsSettled}
use Rattle.dy_core.specs.Logs.{Log, world_after}
use Rattle.dy_shares.specs.Shares.{steps_of}
use Rattle.dy_shares.specs.declared.kept_steps.KeptStep.{KeptStep}
use Rattle.dy_shares.specs.declared.kept_steps.KeptStep.TheVariants.{Issued, Held, HeldRuns}
use Rattle.dy_shares.specs.declared.kept_steps.KeptStep.TheVariants.{Released, Fetched, Acked}
use Rattle.dy_book.specs.declared.audits.Audit.{Audit}
use Rattle.dy_cluster.specs.Ends.{AtRest}

-- the log of a cluster at rest: the steps of its book, on its ring, with n homes a key
abbrev pub log_of : Tokens → ℕ → AtRest → Log
log_of ring n c = record { ring = ring; n = n; steps = steps_of c.book.log }

-- whether the kept step says that the node made a version of the key
abbrev pub is_made_by : ℕ → List ℕ → KeptStep → Bool
is_made_by node key (Issued v) = (node == v.dot.node) && same_key key v.key
is_made_by node key (Held p run k) = false
is_made_by node key (HeldRuns p k dots) = false
is_made_by node key (Released p d k) = false
is_made_by node key (Fetched p k) = false
is_made_by node key (Acked w d k) = false

-- how many versions of the key the node made, as the kept steps say
abbrev pub count_made : List KeptStep → ℕ → List ℕ → ℕ
count_made trail node key = length (filter (is_made_by node key) trail)

-- its node made the dot's version of the key, as the kept steps say: the counter is one of those
-- from 1 to the number of these versions
abbrev pub IsMade : List KeptStep → List ℕ → Dot → Type 0
IsMade trail key d = (1 ≤ d.counter) × (d.counter ≤ count_made trail d.node key)

-- the world after the log has what the audit tells: what is listed as held, the acks that are
-- listed with all places that cover each, the settled keys that are listed, and as many steps; its
-- versions and last counters are those of the issues in the history
pub record Agrees (log : Log) (a : Audit) : Type 0 where
  pub held : ListsHoldings (world_after log.steps) a.held.items
  pub acks : ListsAcks (world_after log.steps) (map (λ x. x.ack) a.acked.items)
  pub covers : All
      (λ x. ListsCovers (world_after log.steps) x.ack.key x.ack.dot x.places.items)
      a.acked.items
  pub settled : ListsSettled (world_after log.steps) a.settled.items
  pub steps : length log.steps ≡ a.steps
  pub issued : (key : List ℕ) (d : Dot) →
      IsTrue (is_issued (world_after log.steps).versions key d)
      ↔ IsMade a.history.trail.items key d
  pub last : (node : ℕ) (key : List ℕ) →
      (world_after log.steps).counters node key ≡ count_made a.history.trail.items node key
