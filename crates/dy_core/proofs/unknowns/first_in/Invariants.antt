use Rattle.dy_core.specs.inside.Meanings.{AreIssuedBelow}
use Rattle.dy_core.proofs.unknowns.first_in.Given as goal

abbrev pub invariant-loop-counter : goal.invariant-loop-counter
invariant-loop-counter l = AreIssuedBelow l.versions l.key l.run l.counter
