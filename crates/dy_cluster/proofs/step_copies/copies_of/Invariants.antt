use Rattle.std.proofs.Common.{take}
use Rattle.dy_cluster.specs.inside.Copies.{AreCopies}
use Rattle.dy_cluster.proofs.step_copies.copies_of.Given as goal

abbrev pub invariant-loop-step : goal.invariant-loop-step
invariant-loop-step l = AreCopies (take l.step-index l.steps) l.copies.items
