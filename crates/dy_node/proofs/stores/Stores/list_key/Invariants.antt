use Rattle.std.proofs.Common.{◌≡◌, ◌++◌, map}
use Rattle.std.specs.FinMap as maps
use Rattle.std.specs.List.{All}
use Rattle.dy_node_store.specs.Rows.{IsRowOf}
use Rattle.dy_hint_store.specs.Hints.{shown}
use Rattle.dy_node.specs.Stored.{hints_below, listed}
use Rattle.dy_node.proofs.stores.Stores.list_key.Given as goal

abbrev pub invariant-loop-number : goal.invariant-loop-number
invariant-loop-number l =
    (map shown l.rows.items ≡ listed l.self.rooms.node (maps.get l.self.rooms.rows l.key)
    ++ hints_below l.self.rooms.hints l.key l.number)
    × All (λ row. IsRowOf l.key row.1) (map shown l.rows.items)
