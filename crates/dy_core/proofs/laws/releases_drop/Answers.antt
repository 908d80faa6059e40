use Rattle.dy_core.specs.Logs.{world_after}
use Rattle.dy_core.proofs.Keeping.{release_row, release_elsewhere}
use Rattle.dy_core.proofs.laws.releases_drop.Goals as goal

pub returns-clause-place : goal.returns-clause-place
returns-clause-place c =
    λ layout steps legal place key d. release_row (world_after steps) place.holder place.home key d

pub returns-clause-others : goal.returns-clause-others
returns-clause-others c =
    λ layout steps legal place key d p o k apart. release_elsewhere
    (world_after steps) place.holder place.home key d p o k apart
