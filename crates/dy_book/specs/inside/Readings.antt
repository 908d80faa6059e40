-- How a step that is kept is read with the index.
use Rattle.std.specs.Prelude.{ℕ, List}
use Rattle.std.specs.List.{Contains}
use Rattle.dy_siblings.specs.Siblings.{Siblings}
use Rattle.dy_core.specs.Worlds.{AreMadeOf, Layout}
use Rattle.dy_core.specs.Logs.{IsLegal, world_after}
use Rattle.dy_core.specs.declared.steps.Step.{Step}
use Rattle.dy_index.specs.Indexes.{IsIndex}
use Rattle.dy_index.specs.declared.parts.KeyPart.{KeyPart}

-- the index is that of a legal log which has the step
pub record IsLogged (entries : List (List ℕ × KeyPart)) (s : Step) : Type 0 where
  pub layout : Layout
  pub steps : List Step
  pub legal : IsLegal layout steps
  pub index : IsIndex (world_after steps) entries
  pub in_log : Contains steps s

-- the index is that of a legal log which made the versions of the row
pub record IsLoggedRow (entries : List (List ℕ × KeyPart)) (row : Siblings) : Type 0 where
  pub layout : Layout
  pub steps : List Step
  pub legal : IsLegal layout steps
  pub index : IsIndex (world_after steps) entries
  pub made : AreMadeOf (world_after steps) row.key row.versions
