use Rattle.std.proofs.Common.{◌≡◌, ◌++◌, map, drop}
use Rattle.std.specs.FinMap as maps
use Rattle.std.specs.List.{All}
use Rattle.dy_hint_store.specs.Hints.{IsHint, home_and_row, shown}
use Rattle.dy_hint_store.specs.inside.Homes.{entries_from}
use Rattle.dy_hint_store.proofs.stores.HintStore.list.Given as goal

-- the hints listed, with those of the homes to come, are all, and each that is listed is kept
abbrev pub invariant-loop-number : goal.invariant-loop-number
invariant-loop-number l =
    (map shown l.hints.items ++ map home_and_row (entries_from l.number (drop l.number l.self-inside.homes.items)) ≡ map home_and_row (maps.entries l.self))
    × All (IsHint l.self) (map shown l.hints.items)
