use Rattle.std.proofs.Common.{◌≡◌, map, take}
use Rattle.dy_commands.specs.Answers.{kept_row}
use Rattle.dy_commands.proofs.outages.kept_of.Given as goal

abbrev pub invariant-loop-row : goal.invariant-loop-row
invariant-loop-row l = l.kept.items ≡ map kept_row (take l.row-index l.rows)
