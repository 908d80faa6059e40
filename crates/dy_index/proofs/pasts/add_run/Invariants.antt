use Rattle.std.proofs.Common.{◌+◌, ◌≤◌, ℕ, List}
use Rattle.std.specs.Option.{option_copied}
use Rattle.dy_core.specs.Logs.{world_after}
use Rattle.dy_core.specs.inside.Meanings.{AreIssuedBelow}
use Rattle.dy_core.specs.declared.steps.Step.{Step}
use Rattle.dy_index.specs.inside.Pasts.{GrowsByRun, HasFrom, IsGathering}
use Rattle.dy_index.proofs.pasts.add_run.Given as goal

abbrev pub invariant-loop-next : goal.invariant-loop-next
invariant-loop-next l = record {
  high : l.next ≤ l.run.last + 1;
  grows : (steps : List Step) (key : List ℕ) →
      IsGathering steps key (option_copied l.part) l.initial.past →
      AreIssuedBelow (world_after steps).versions key l.run (l.run.last + 1) →
      GrowsByRun (world_after steps).versions key l.run l.initial.past l.past;
  inside : (steps : List Step) (key : List ℕ) →
      IsGathering steps key (option_copied l.part) l.initial.past →
      AreIssuedBelow (world_after steps).versions key l.run (l.run.last + 1) →
      HasFrom l.past l.run.node l.next (l.run.last + 1);
}

abbrev pub decreases-loop-next : goal.decreases-loop-next
decreases-loop-next l = l.next
