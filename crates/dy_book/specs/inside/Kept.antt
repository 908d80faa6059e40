-- What is so of every book by its type.
use Rattle.std.specs.Prelude.{◌≡◌, ℕ, ◌≤◌, List, length}
use Rattle.dy_ring.specs.Rings.{Tokens}
use Rattle.dy_core.specs.Worlds.{layout_of}
use Rattle.dy_core.specs.Logs.{world_after, IsLegal}
use Rattle.dy_index.specs.Indexes.{IsIndex}
use Rattle.dy_index.specs.declared.parts.KeyPart.{KeyPart}
use Rattle.dy_shares.specs.declared.entries.Entry.{Entry}
use Rattle.dy_shares.specs.Shares.{steps_of}
use Rattle.dy_book.specs.declared.options.Options.{Options}
use Rattle.dy_book.specs.Limits.{AreLimits, IsQuorum}

-- n and r are those of the name; the limits are in their ranges, and kept; the log is
-- legal, and the index is that of its world
pub record IsBook (ring : Tokens) (n r : ℕ) (log : List Entry) (options : Options)
    (versions : ℕ) (entries : List (List ℕ × KeyPart)) : Type 0 where
  pub n_is : options.n ≡ n
  pub r_is : options.r ≡ r
  pub limits : AreLimits options
  pub quorum : IsQuorum options ring.nodes
  pub legal : IsLegal (layout_of ring n) (steps_of log)
  pub steps_few : length log ≤ options.steps_limit
  pub versions_few : versions ≤ options.versions_limit
  pub versions_are : versions ≡ length (world_after (steps_of log)).versions
  pub index : IsIndex (world_after (steps_of log)) entries
