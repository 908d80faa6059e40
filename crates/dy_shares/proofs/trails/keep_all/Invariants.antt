use Rattle.std.proofs.Common.{◌≡◌, List, ◌++◌, take, vec_capacity}
use Rattle.dy_shares.specs.declared.kept_steps.KeptStep.{KeptStep}
use Rattle.dy_shares.specs.Trails.{AreKept}
use Rattle.dy_shares.proofs.trails.keep_all.Given as goal

-- so far each step is kept behind what was there
abbrev pub invariant-loop-step : goal.invariant-loop-step
invariant-loop-step l =
    (kept : List KeptStep) × (l.trail.items ≡ l.initial.trail.items ++ kept)
    × AreKept kept (take l.step-index l.fn.steps) × (vec_capacity l.trail ≡ vec_capacity l.initial.trail)
