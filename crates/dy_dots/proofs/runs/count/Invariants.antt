use Rattle.std.proofs.Common.{◌≡◌, ◌+◌, drop}
use Rattle.dy_dots.specs.inside.Kinds.{count_of}
use Rattle.dy_dots.proofs.runs.count.Given as goal

abbrev pub invariant-loop-run : goal.invariant-loop-run
invariant-loop-run l = l.total + count_of (drop l.run-index l.runs) ≡ count_of l.runs
