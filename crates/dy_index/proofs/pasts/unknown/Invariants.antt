use Rattle.std.proofs.Common.{ℕ, List, take}
use Rattle.std.specs.Option.{option_copied}
use Rattle.dy_core.specs.Logs.{world_after}
use Rattle.dy_core.specs.inside.Meanings.{AreIssuedIn}
use Rattle.dy_core.specs.declared.steps.Step.{Step}
use Rattle.dy_index.specs.Indexes.{IsPartAfter}
use Rattle.dy_index.proofs.pasts.unknown.Given as goal

abbrev pub invariant-loop-run : goal.invariant-loop-run
invariant-loop-run l =
    (steps : List Step) (key : List ℕ) → IsPartAfter steps key (option_copied l.part) →
    AreIssuedIn (world_after steps).versions key (take l.run-index l.runs)
