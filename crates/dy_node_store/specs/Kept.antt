-- A node's own store.
use Rattle.std.specs.Prelude.{refl}
use Rattle.std.specs.Coded.{Coded, code_by, coded×}
use Rattle.dy_node_store.specs.Rows.{Rows, rows_code}
use Rattle.dy_node_store.specs.Counters.{Counters, counters_code}

-- what a node's own store is seen as: its rows, and the greatest counter that it used of each key
pub record Kept : Type 0 where
  pub rows : Rows
  pub counters : Counters

-- how stores are told apart
abbrev pub kept_code : Coded Kept
kept_code =
    code_by (Rows × Counters) (coded× rows_code counters_code)
    (λ k. (k.rows, k.counters)) (λ p. record { rows = p.0; counters = p.1 }) (λ _. refl)
