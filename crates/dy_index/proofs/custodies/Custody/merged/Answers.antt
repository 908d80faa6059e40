use Rattle.std.proofs.Common.{sym, ap, subst}
use Rattle.dy_siblings.specs.Siblings.{Siblings, IsSameRow, merge}
use Rattle.dy_core.specs.declared.holdings.Holding.{Holding}
use Rattle.dy_index.proofs.custodies.Custody.merged.Goals as goal

pub returns-clause-row : goal.returns-clause-row
returns-clause-row c =
    let vs = c.args.row.now.versions in
    subst (λ (h : Holding). IsSameRow c.in_ok-custody.custody.row.versions (merge h.row.versions vs))
    c.self.view_is
    (subst (λ (r : Siblings). IsSameRow r.versions (merge c.self.inside.row.versions vs))
    (sym (ap (λ h. h.row) c.in_ok-custody.ensures.ok)) c.in_ok-merged.ensures.ok)
