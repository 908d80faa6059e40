use Rattle.std.proofs.Common.{◌≤◌, ◌+◌, ◌-◌, length, vec_len}
use Rattle.dy_hint_store.specs.inside.Homes.{HaveSameRows}
use Rattle.dy_hint_store.proofs.homes.make_room.Given as goal

-- the maps that were made have no rows
abbrev pub invariant-loop-alloc : goal.invariant-loop-alloc
invariant-loop-alloc l = record {
  same : HaveSameRows l.homes.items l.initial.homes.items;
  longer : length l.initial.homes.items ≤ length l.homes.items;
  few : length l.homes.items ≤ 32;
}

abbrev pub decreases-loop-alloc : goal.decreases-loop-alloc
decreases-loop-alloc l = l.home + 1 - vec_len l.homes
