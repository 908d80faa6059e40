-- How much of the log of a closed cluster was read.
use Rattle.std.specs.Prelude.{◌≡◌, ℕ, List, length}
use mathlib.Core.List.{IsPrefix}
use Rattle.dy_shares.specs.Shares.{steps_of}
use Rattle.dy_shares.specs.declared.entries.Entry.{Entry}
use Rattle.dy_book.specs.Audits.{IsHistoryOf}
use Rattle.dy_book.specs.declared.audits.Audit.{Audit}

-- the log that the audit has begins with this, which are so many entries
pub record HasRead (steps : ℕ) (read : List Entry) (audit : Audit) : Type 0 where
  pub log : List Entry
  pub count : steps ≡ length read
  pub begins : IsPrefix read log
  pub history : IsHistoryOf audit.history (steps_of log)
