use Rattle.std.proofs.Common.{ℕ, List, take}
use Rattle.std.specs.Option.{option_copied}
use Rattle.dy_core.specs.Steps.{IsKnown}
use Rattle.dy_core.specs.Logs.{world_after}
use Rattle.dy_core.specs.declared.steps.Step.{Step}
use Rattle.dy_index.specs.Indexes.{IsPartAfter}
use Rattle.dy_index.proofs.Gathering.{IsGathered}
use Rattle.dy_index.proofs.pasts.past_named.Given as goal

abbrev pub invariant-loop-run : goal.invariant-loop-run
invariant-loop-run l =
    (steps : List Step) (key : List ℕ) → IsPartAfter steps key (option_copied l.part) →
    IsKnown (world_after steps) key l.context →
    IsGathered (world_after steps).versions key l.context (take l.run-index l.runs) l.past
