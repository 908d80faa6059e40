use Rattle.std.proofs.Common.{[], sym, ap, subst}
use Rattle.dy_siblings.specs.Siblings.{Siblings, IsSameRow, merge}
use Rattle.dy_index.proofs.holds.held_first.Goals as goal

pub returns-clause-row : goal.returns-clause-row
returns-clause-row c =
    let vs = c.args.row.now.versions in
    subst (λ (r : Siblings). IsSameRow r.versions (merge [] vs))
    (sym (ap (λ h. h.row) c.in_ok-custody.ensures.ok))
    (subst (λ (r : Siblings). IsSameRow c.in_ok-merged.merged.versions (merge r.versions vs))
    c.new-none.ensures c.in_ok-merged.ensures.ok)
