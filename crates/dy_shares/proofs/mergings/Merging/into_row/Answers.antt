use Rattle.std.proofs.Common.{sym, subst}
use Rattle.dy_siblings.specs.Siblings.{IsSameRow, newest}
use Rattle.dy_core.specs.Logs.{rows_of}
use Rattle.dy_shares.specs.Merged.{Merged}
use Rattle.dy_shares.proofs.mergings.Merging.into_row.Goals as goal

-- the row is the merging's
pub returns-clause-merged : goal.returns-clause-merged
returns-clause-merged g c answers is =
    subst (λ (m : Merged). IsSameRow m.versions (newest (rows_of answers)))
    (sym c.self.view_is) is.merged
