use Rattle.std.proofs.Common.{◌≡◌, ◌↔◌, IsTrue, ap, subst, not}
use Rattle.dy_siblings.specs.Siblings.{Siblings}
use Rattle.dy_repair.proofs.Telling.{current_by}
use Rattle.dy_repair.proofs.staleness.is_other.Goals as goal

-- rows are one where key and versions are
pub returns : goal.returns
returns g c =
    let row : Siblings = c.args.row.now in
    let P : Siblings → Type 0 = λ s. IsTrue c.is_same.result ↔ (s ≡ row) in
    ap not (current_by row c.args.seen.now c.is_same.result
    (subst P c.row.ensures c.is_same.ensures))
