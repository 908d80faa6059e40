-- What a node shows of a key.
use Rattle.std.specs.Prelude.{◌≡◌, ◌<◌, ℕ, List, length}
use Rattle.std.specs.List.{All}
use Rattle.dy_siblings.specs.Siblings.{Siblings}
use Rattle.dy_node.specs.Stored.{Rooms, kept_rows}

-- the rows are all that a node keeps of the key, its own first, and then its hints by rising home;
-- each is of the key, and has a version
pub record IsShow (key : List ℕ) (rows : List (ℕ × Siblings)) : Type 0 where
  pub kept : Rooms
  pub rows_are : rows ≡ kept_rows kept key
  pub of_key : All (λ row. (row.1.key ≡ key) × (0 < length row.1.versions)) rows
