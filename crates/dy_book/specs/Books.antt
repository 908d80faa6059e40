-- Books: what a book is seen as, and what its calls need and give.
use Rattle.std.specs.Prelude.{◌≡◌, ◌≢◌, ℕ, ◌+◌, ◌<◌, ◌≤◌, IsTrue, List, []}
use Rattle.std.specs.Prelude.{◌∷◌, ◌++◌, length, map, refl}
use Rattle.std.specs.List.{All}
use Rattle.std.specs.Coded.{Coded, coded×, coded_ℕ, code_by}
use Rattle.dy_dots.specs.Dots.{DotSet}
use Rattle.dy_dots.specs.declared.dots.Dot.{Dot}
use Rattle.dy_siblings.specs.Siblings.{Siblings}
use Rattle.dy_siblings.specs.declared.versions.Version.{Version}
use Rattle.dy_core.specs.Worlds.{World}
use Rattle.dy_core.specs.Steps.{IsKnown, version_made, place_for}
use Rattle.dy_core.specs.Logs.{world_after}
use Rattle.dy_core.specs.declared.steps.Step.{Step}
use Rattle.dy_core.specs.declared.steps.Step.TheVariants.{Issue, Hold, Release}
use Rattle.dy_shares.specs.declared.entries.Entry.{Entry}
use Rattle.dy_shares.specs.Shares.{steps_of, untold, ReceiptParts, receipt_parts}
use Rattle.dy_shares.specs.Codes.{entries_code}
use Rattle.dy_book.specs.contracts.options.Options as options
use Rattle.dy_book.specs.declared.options.Options.{Options}

-- what a book is seen as: its log, how many sessions it has opened, and its options
pub record BookParts : Type 0 where
  pub log : List Entry
  pub sessions : ℕ
  pub options : Options

-- a book as plain data
abbrev pub book_code : Coded BookParts
book_code =
    code_by (List Entry × (ℕ × Options))
    (coded× entries_code (coded× coded_ℕ options.the_row.coded))
    (λ b. (b.log, (b.sessions, b.options)))
    (λ p. record { log = p.0; sessions = p.1.0; options = p.1.1 }) (λ _. refl)

-- the world after the book's log
abbrev pub world_of : BookParts → World
world_of b = world_after (steps_of b.log)

-- the book with these entries at the end of its log
abbrev pub with_entries : BookParts → List Entry → BookParts
with_entries b entries = record b { log = b.log ++ entries }

-- the book with these steps at the end of its log, of which no session was told
abbrev pub with_untold : BookParts → List Step → BookParts
with_untold b steps = with_entries b (map untold steps)

-- the book with a session more
abbrev pub with_session : BookParts → BookParts
with_session b = record b { sessions = b.sessions + 1 }

-- so many steps more are within the limit
abbrev pub HasRoom : BookParts → ℕ → Type 0
HasRoom b count = length b.log + count ≤ b.options.steps_limit

-- so many steps more would pass the limit
abbrev pub LacksRoom : BookParts → ℕ → Type 0
LacksRoom b count = b.options.steps_limit < length b.log + count

-- fewer versions were issued than the limit
abbrev pub HasVersionsLeft : BookParts → Type 0
HasVersionsLeft b = length (world_of b).versions < b.options.versions_limit

-- the node may make this version next
pub record IsNext (w : World) (node : ℕ) (v : Version) : Type 0 where
  pub context : DotSet
  pub known : IsKnown w v.key context
  pub is_made : v ≡ version_made w node v.key context v.value

-- an issue by the node may add this version now, and the limits leave room for it and its hold
pub record MayIssue (b : BookParts) (node : ℕ) (v : Version) : Type 0 where
  pub next : IsNext (world_of b) node v
  pub counter_left : (world_of b).counters node v.key < b.options.counter_limit
  pub versions_left : HasVersionsLeft b
  pub room : HasRoom b 2

-- the row of one version
abbrev pub row_alone : Version → Siblings
row_alone v = record { key = v.key; versions = v ∷ [] }

-- the issue of a version, and the hold of it alone; the issue names the whole past
abbrev pub issue_steps : ℕ → ℕ → Version → List Step
issue_steps node home v =
    Issue node v.key v.past v.value ∷ Hold (place_for node home) (row_alone v) ∷ []

-- the receipts of the versions of a row, in their order
abbrev pub receipts_of : List Version → ℕ → ℕ → List ReceiptParts
receipts_of vs holder home = map (λ v. receipt_parts v.key v.dot holder home) vs

-- a receipt of a dot that stands in a hint of the node, and that its home gave itself
pub record MayRelease (w : World) (node : ℕ) (r : ReceiptParts) : Type 0 where
  pub own : r.holder ≡ r.home
  pub other : r.home ≢ node
  pub held : IsTrue (w.holdings node r.home r.key r.dot)

-- two receipts of one home, key and dot
abbrev pub AreOneDot : ReceiptParts → ReceiptParts → Type 0
AreOneDot r s = (r.home ≡ s.home) × (r.key ≡ s.key) × (r.dot ≡ s.dot)

-- no two of the receipts are of one home, key and dot
abbrev pub AreOfDistinctDots : List ReceiptParts → Type 0
AreOfDistinctDots [] = Unit {0}
AreOfDistinctDots (r ∷ rs) = All (λ s. AreOneDot r s → ⊥) rs × AreOfDistinctDots rs

-- a node gives up the dot of each receipt
abbrev pub release_steps : ℕ → List ReceiptParts → List Step
release_steps node receipts = map (λ r. Release (place_for node r.home) r.key r.dot) receipts

-- the receipts are of this key and dot
abbrev pub AreOf : List ℕ → Dot → List ReceiptParts → Type 0
AreOf key d receipts = All (λ r. (r.key ≡ key) × (r.dot ≡ d)) receipts
