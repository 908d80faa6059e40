-- One version that follows is held alone, and is the merge. Where no version came beside, what is
-- held is as it was until the merge replaces it.
use Rattle.std.proofs.Common.{◌≡◌, ◌∷◌, [], IfNone, IfOk, sym, subst}
use Rattle.dy_siblings.specs.Siblings.{Siblings, IsSameRow, merge}
use Rattle.dy_siblings.specs.declared.versions.Version.{Version}
use Rattle.dy_core.specs.declared.holdings.Holding.{Holding}
use Rattle.dy_index.specs.Merges.{merged_by}
use Rattle.dy_index.proofs.custodies.Custody.begin.Goals as goal

pub returns-in-Some-clause-row : goal.returns-in-Some-clause-row
returns-in-Some-clause-row c =
    let old = c.args.self.now.row.versions in
    let others = c.args.row.now.versions in
    subst (λ (v : Version). IsSameRow (v ∷ []) (merge old others)) (sym c.in_ok-copy.ensures.value)
    (subst (λ (r : Siblings). IsSameRow (c.in-Some.version.now ∷ []) (merge r.versions others))
    c.row.ensures c.in-Some.ensures.merge)

pub returns-clause-row : goal.returns-clause-row
returns-clause-row c =
    let new = c.put_beside.new.self in
    let same : new ≡ c.args.self.now =
    subst (λ o. IfNone o (new ≡ c.args.self.now)) c.in_default-2.is c.in_ok-dot.ensures.same in
    subst (λ (h : Holding). IfOk c.begin_over.result (λ m. IsSameRow (merged_by m c.begin_over.new.self).row.versions
    (merge h.row.versions c.args.row.now.versions))) same c.begin_over.ensures.row
