-- How far the steps of a cluster were read, and how one ends whose steps were read.
use Rattle.std.specs.Prelude.{◌≡◌, ◌++◌, ℕ, List, [], Option, None, Some}
use mathlib.Core.List.{IsPrefix}
use Rattle.dy_ring.specs.Rings.{Tokens}
use Rattle.dy_shares.specs.Shares.{SessionPart, steps_of}
use Rattle.dy_shares.specs.Trails.{AreKept}
use Rattle.dy_shares.specs.declared.entries.Entry.{Entry}
use Rattle.dy_shares.specs.declared.kept_steps.KeptStep.{KeptStep}
use Rattle.dy_cluster.specs.Ends.{AtRest, IsEndOf}
use Rattle.dy_cluster.specs.declared.resting.Closed.{Closed}

-- the beginning of a log that was read, where one was
abbrev pub log_of : Option (List Entry) → List Entry
log_of None = []
log_of (Some log) = log

-- the mark moved behind more of the log, whose steps are kept so
pub record IsMoved (before after : List Entry) (kept : List KeptStep) : Type 0 where
  pub added : List Entry
  pub after_is : after ≡ before ++ added
  pub are_kept : AreKept kept (steps_of added)

-- a cluster of this ring ended so, and its log begins with what was read
pub record IsClosedBehind (ring : Tokens) (n r : ℕ) (tellings : List SessionPart)
    (read : List Entry) (closed : Closed) : Type 0 where
  pub rest : AtRest
  pub ended : IsEndOf ring n r rest tellings closed
  pub begins : IsPrefix read rest.book.log
