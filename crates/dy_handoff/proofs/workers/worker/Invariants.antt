use Rattle.std.proofs.Common.{◌≡◌, ◌+◌}
use Rattle.dy_handoff.proofs.workers.worker.Given as goal

-- a round is a pass
abbrev pub invariant-loop : goal.invariant-loop
invariant-loop g l = g.P.Passing.made l.passing ≡ g.P.Passing.made l.initial.passing + l.counter
