-- What is asked of a node, and which answers fit.
use Rattle.std.specs.Prelude.{◌≡◌, ◌<◌, ◌∷◌, [], ℕ, IsTrue, List, Option}
use Rattle.std.specs.FinSet as set
use Rattle.std.specs.List.{Contains}
use Rattle.dy_dots.specs.Dots.{DotSet}
use Rattle.dy_siblings.specs.Siblings.{IsSameRow, merge}
use Rattle.dy_siblings.specs.declared.versions.Version.{Version}
use Rattle.dy_core.specs.Worlds.{Layout, row_at}
use Rattle.dy_core.specs.Steps.{version_made}
use Rattle.dy_core.specs.Logs.{Answer as SeenParts, IsLegal, world_after}
use Rattle.dy_core.specs.declared.steps.Step.{Step}
use Rattle.dy_shares.specs.Shares.{receipt_parts}
use Rattle.dy_book.specs.Books.{receipts_of}
use Rattle.dy_node.specs.declared.asks.Ask.{Ask}
use Rattle.dy_node.specs.declared.asks.Ask.TheVariants as ask
use Rattle.dy_node.specs.declared.asks.Answer.{Answer}
use Rattle.dy_node.specs.declared.asks.Answer.TheVariants as answer
use Rattle.dy_node.specs.declared.begun.Begun.{Begun}
use Rattle.dy_transport.specs.Snapshots.{snapshot_of}
use Rattle.dy_transport.specs.declared.asked.Asked.{Asked}
use Rattle.dy_transport.specs.declared.asked.What.{What}
use Rattle.dy_transport.specs.declared.asked.What.TheVariants as what

-- the seen is a fetch of the key at the node for the home, after so many steps
pub record IsSeenAt (node home : ℕ) (key : List ℕ) (since : ℕ) (seen : SeenParts) : Type 0 where
  pub holder_is : seen.holder ≡ node
  pub home_is : seen.home ≡ home
  pub key_is : seen.key ≡ key
  pub later : since < seen.at

module _ {J : Type 0} where
  -- what is asked of a node
  abbrev pub what_of : Ask J → What
  what_of (ask.Store home row) = what.Store (snapshot_of row)
  what_of (ask.Fetch home key since) = what.Fetch (snapshot_of key.now) since.now

  -- the home that an ask is for
  abbrev pub home_of : Ask J → ℕ
  home_of (ask.Store home row) = home
  home_of (ask.Fetch home key since) = home

  -- an ask as it is told, with how many answers had been read before it
  abbrev pub asked : ℕ → Ask J → ℕ → Asked
  asked to a read = record { to = to; home = home_of a; what = what_of a; read = read }

  -- what a begin at the node for the home gives behind a legal log: the version that the node makes
  -- there, whose past is the histories, together, of the versions that the context names; what the
  -- node held for the home, merged with it; and the receipt of its dot
  pub record IsBegun (layout : Layout) (node home : ℕ) (key : List ℕ) (context : DotSet)
      (value : Option (List ℕ)) (b : Begun J) : Type 0
    where
      pub log : List Step
      pub legal : IsLegal layout log
      pub version : Version
      pub is_made : version ≡ version_made (world_after log) node key context value
      pub follows : IsTrue (set.is_subset context version.past)
      pub dot_is : version.dot ≡ b.dot
      pub key_is : b.row.key ≡ key
      pub row_is : IsSameRow b.row.versions
          (merge (row_at (world_after log) node home key) (version ∷ []))
      pub in_row : Contains b.row.versions version
      pub receipt_is : b.receipt ≡ receipt_parts key b.dot node home

  -- an answer of a node to what it was asked for a home: a receipt for each version of the row, or
  -- a fetch of that key after so many steps; that it is down, that nothing came and a refusal fit
  -- all
  abbrev pub FitsWhat : ℕ → ℕ → What → Answer J → Type 0
  FitsWhat to home (what.Store row) (answer.Stored receipts) =
      receipts.items ≡ receipts_of row.value.versions to home
  FitsWhat to home (what.Store row) (answer.Rows seen) = ⊥
  FitsWhat to home (what.Fetch key since) (answer.Stored receipts) = ⊥
  FitsWhat to home (what.Fetch key since) (answer.Rows seen) =
      IsSeenAt to home key.value since seen
  FitsWhat to home w answer.Down = Unit {0}
  FitsWhat to home w answer.NoAnswer = Unit {0}
  FitsWhat to home w (answer.Refused f) = Unit {0}

  -- the answer is one to the ask as it is told
  abbrev pub FitsAsked : Asked → Answer J → Type 0
  FitsAsked a x = FitsWhat a.to a.home a.what x

  -- the answer is one of this node to the ask
  abbrev pub IsAnswerTo : ℕ → Ask J → Answer J → Type 0
  IsAnswerTo to a x = FitsWhat to (home_of a) (what_of a) x
