use Rattle.std.proofs.Common.{take}
use Rattle.dy_core.specs.inside.Meanings.{AreIssuedIn}
use Rattle.dy_core.proofs.unknowns.least.Given as goal

abbrev pub invariant-loop-run : goal.invariant-loop-run
invariant-loop-run l = AreIssuedIn l.versions l.key (take l.run-index l.runs)
