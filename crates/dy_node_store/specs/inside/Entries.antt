-- The entries that a map of rows is made of.
use Rattle.std.specs.Prelude.{ℕ, List, IfSome}
use Rattle.std.specs.Map.{lookup}
use Rattle.dy_siblings.specs.Siblings.{Siblings, same_key}
use Rattle.dy_node_store.specs.Rows.{IsRowOf}

-- what is found at a key is a row of it, with a version
pub record AreRows (es : List (List ℕ × Siblings)) : Type 0 where
  pub at : (key : List ℕ) → IfSome (lookup (same_key key) es) (IsRowOf key)
