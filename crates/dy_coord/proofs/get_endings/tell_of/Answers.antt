-- The slice that is merged is the whole list.
use Rattle.std.proofs.Common.{List, subst}
use Rattle.dy_siblings.specs.Siblings.{IsSameRow, newest}
use Rattle.dy_core.specs.Logs.{Answer, rows_of}
use Rattle.dy_coord.proofs.get_endings.tell_of.Goals as goal

pub returns-clause-row : goal.returns-clause-row
returns-clause-row g c =
    let P : List Answer → Type 0 =
    λ xs. IsSameRow c.in_ok-row.row.versions (newest (rows_of xs)) in
    subst P c.as_slice.ensures.value c.in_ok-row.ensures.merged
