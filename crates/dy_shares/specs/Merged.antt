-- What the merge of answers to one get is: of one key, and of one legal log.
use Rattle.std.specs.Prelude.{◌≡◌, ℕ, List, refl}
use Rattle.std.specs.List.{All}
use Rattle.std.specs.Coded.{Coded, coded×, coded_ℕ, coded_list, code_by}
use mathlib.Core.List.{IsPrefix}
use Rattle.dy_siblings.specs.Versions.{version_code}
use Rattle.dy_siblings.specs.Siblings.{IsSameRow, newest}
use Rattle.dy_siblings.specs.declared.versions.Version.{Version}
use Rattle.dy_core.specs.Worlds.{Layout, AreMadeOf}
use Rattle.dy_core.specs.Logs.{Answer, IsLegal, rows_of, world_after}
use Rattle.dy_shares.specs.Shares.{steps_of}
use Rattle.dy_shares.specs.Codes.{entries_code}
use Rattle.dy_shares.specs.declared.entries.Entry.{Entry}

-- what a merging is seen as: a key, the versions of its row, and the log as far as it was seen
pub record Merged : Type 0 where
  pub key : List ℕ
  pub versions : List Version
  pub front : List Entry

-- the code of a merging
abbrev pub merged_code : Coded Merged
merged_code =
    code_by (List ℕ × (List Version × List Entry))
    (coded× (coded_list coded_ℕ) (coded× (coded_list version_code) entries_code))
    (λ m. (m.key, (m.versions, m.front)))
    (λ p. record { key = p.0; versions = p.1.0; front = p.1.1 }) (λ _. refl)

-- the versions were made by a legal log that the front begins with, and are of the key
pub record AreOfLog (layout : Layout) (front : List Entry) (key : List ℕ) (versions : List Version)
    : Type 0 where
  pub log : List Entry
  pub begins : IsPrefix log front
  pub legal : IsLegal layout (steps_of log)
  pub made : AreMadeOf (world_after (steps_of log)) key versions

-- the versions are the merge of the rows of these answers, all of the key and of one legal log
pub record IsMergeOf (layout : Layout) (m : Merged) (answers : List Answer) : Type 0 where
  pub of_key : All (λ a. a.key ≡ m.key) answers
  pub of_log : AreOfLog layout m.front m.key (rows_of answers)
  pub merged : IsSameRow m.versions (newest (rows_of answers))
