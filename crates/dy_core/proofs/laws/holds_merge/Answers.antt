use Rattle.dy_core.specs.Logs.{world_after}
use Rattle.dy_core.proofs.OverLogs.{log_sound}
use Rattle.dy_core.proofs.Keeping.{hold_row, hold_elsewhere}
use Rattle.dy_core.proofs.Merging.{same_row_back}
use Rattle.dy_core.proofs.laws.holds_merge.Goals as goal

pub returns-clause-place : goal.returns-clause-place
returns-clause-place c =
    λ layout steps legal place row allowed. same_row_back _ _
    (hold_row (world_after steps) (log_sound layout steps legal).ordered place.holder place.home row allowed.1)

pub returns-clause-others : goal.returns-clause-others
returns-clause-others c =
    λ layout steps legal place row allowed p o k apart. same_row_back _ _
    (hold_elsewhere (world_after steps) place.holder place.home row p o k apart)
