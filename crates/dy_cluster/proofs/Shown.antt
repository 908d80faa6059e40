-- What is shown of a node.
use Rattle.std.proofs.Common.{◌≡◌, ◌<◌, ◌∙◌, ℕ, List, length, sym, subst}
use Rattle.std.specs.List.{All}
use Rattle.dy_siblings.specs.Siblings.{Siblings}
use Rattle.dy_node.specs.Stored.{Rooms, kept_rows}
use Rattle.dy_cluster.specs.Shows.{IsShow}

-- copies of all that a node keeps of the key are shown
pub all_shown : (kept : Rooms) (key : List ℕ) (rows copies : List (ℕ × Siblings)) →
    copies ≡ rows → rows ≡ kept_rows kept key →
    All (λ row. (row.1.key ≡ key) × (0 < length row.1.versions)) rows → IsShow key copies
all_shown kept key rows copies same is of_key = record {
  kept = kept;
  rows_are = same ∙ is;
  of_key = subst (λ (shown : List (ℕ × Siblings)).
      All (λ row. (row.1.key ≡ key) × (0 < length row.1.versions)) shown) (sym same) of_key;
}
