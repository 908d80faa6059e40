use Rattle.std.proofs.Common.{◌≡◌, take}
use Rattle.dy_core.proofs.applying.run_steps.Given as goal

abbrev pub invariant-loop-step : goal.invariant-loop-step
invariant-loop-step l =
    l.world ≡ record { ring = l.fn.ring; n = l.fn.n; steps = take l.step-index l.steps }
