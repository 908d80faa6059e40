use Rattle.std.proofs.Common.{◌≡◌, ◌++◌, map, take}
use Rattle.dy_hint_store.specs.Hints.{shown}
use Rattle.dy_hint_store.proofs.homes.add_hints.Given as goal

-- the rows so far are listed
abbrev pub invariant-loop-row : goal.invariant-loop-row
invariant-loop-row l =
    map shown l.hints.items ≡ map shown l.initial.hints.items ++ map (λ row. shown (l.home, row)) (take l.row-index l.rows)
