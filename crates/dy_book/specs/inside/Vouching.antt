-- Rows for which the book vouches.
use Rattle.std.specs.Prelude.{List, Option, None, Some}
use Rattle.dy_siblings.specs.Siblings.{Siblings}
use Rattle.dy_core.specs.Worlds.{AreMadeOf}
use Rattle.dy_core.specs.Logs.{world_after}
use Rattle.dy_shares.specs.Shares.{steps_of}
use Rattle.dy_shares.specs.declared.entries.Entry.{Entry}

-- the log that the front has, where there is one, issued the versions of the row
abbrev pub IsVouched : Option (List Entry) → Siblings → Type 0
IsVouched None row = Unit {0}
IsVouched (Some front) row = AreMadeOf (world_after (steps_of front)) row.key row.versions
