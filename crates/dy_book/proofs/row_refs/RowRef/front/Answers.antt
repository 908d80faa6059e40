use Rattle.std.proofs.Common.{subst}
use Rattle.dy_siblings.specs.Siblings.{Siblings}
use Rattle.dy_core.specs.Worlds.{AreMadeOf}
use Rattle.dy_core.specs.Logs.{world_after}
use Rattle.dy_shares.specs.Shares.{steps_of}
use Rattle.dy_book.specs.inside.Vouching.{IsVouched}
use Rattle.dy_book.proofs.row_refs.RowRef.front.Goals as goal

-- the type says what the front had issued
pub returns-in-Some : goal.returns-in-Some
returns-in-Some g c =
    subst (λ (r : Siblings). AreMadeOf (world_after (steps_of c.in-Some.front)) r.key r.versions)
    c.self.view_is
    (subst (λ o. IsVouched o c.self.inside.row.now) c.in-Some.is c.self.invariant)
