use Rattle.std.proofs.Common.{◌+◌, ◌-◌, vec_len}
use Rattle.dy_index.specs.Lists.{HaveSameMade}
use Rattle.dy_index.proofs.parts.make_room.Given as goal

abbrev pub invariant-loop-alloc : goal.invariant-loop-alloc
invariant-loop-alloc l = HaveSameMade l.made.items l.initial.made.items

abbrev pub decreases-loop-alloc : goal.decreases-loop-alloc
decreases-loop-alloc l = l.node + 1 - vec_len l.made
