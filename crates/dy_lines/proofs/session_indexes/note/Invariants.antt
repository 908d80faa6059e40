use Rattle.std.proofs.Common.{take}
use Rattle.dy_lines.specs.inside.Noting.{IsNoted}
use Rattle.dy_lines.proofs.session_indexes.note.Given as goal

-- the place is noted by the numbers so far
abbrev pub invariant-loop-number : goal.invariant-loop-number
invariant-loop-number l =
    IsNoted l.initial.places (take l.number-index l.numbers) l.place l.places
