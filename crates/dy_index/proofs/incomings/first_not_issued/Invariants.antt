use Rattle.std.proofs.Common.{◌≡◌, List, take}
use Rattle.std.specs.List.{All, Contains}
use Rattle.std.specs.Option.{option_copied}
use Rattle.dy_core.specs.Logs.{world_after}
use Rattle.dy_core.specs.declared.steps.Step.{Step}
use Rattle.dy_index.specs.Indexes.{IsPartAfter, made_in}
use Rattle.dy_index.proofs.incomings.first_not_issued.Given as goal

abbrev pub invariant-loop-version : goal.invariant-loop-version
invariant-loop-version l = record {
  issued : (steps : List Step) → IsPartAfter steps l.row.key (option_copied l.part) →
      All (λ v. (v.key ≡ l.row.key) × Contains (world_after steps).versions v)
      (take l.version-index l.versions);
  made : l.made ≡ made_in (option_copied l.part) l.node;
}
