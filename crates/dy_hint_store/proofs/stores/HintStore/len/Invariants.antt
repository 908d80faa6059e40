use Rattle.std.proofs.Common.{◌≡◌, ◌+◌, ◌-◌, ◌^◌, ℕ, length, drop, min}
use Rattle.std.specs.FinMap as maps
use Rattle.dy_hint_store.specs.inside.Homes.{entries_from}
use Rattle.dy_hint_store.proofs.stores.HintStore.len.Given as goal

-- those counted, with those of the homes to come, are all
abbrev pub invariant-loop-number : goal.invariant-loop-number
invariant-loop-number l =
    (before : ℕ) × (l.count ≡ min before (2 ^ 64 - 1))
    × (before + length (entries_from l.number (drop l.number l.self-inside.homes.items))
    ≡ length (maps.entries l.self))
