-- The dots with the version's are those of the versions with it.
use Rattle.std.proofs.Common.{◌≡◌, ◌≤◌, IfSome, insert, length, map, sym, ap, ◌∙◌, subst}
use Rattle.dy_siblings.specs.Siblings.{IsSameRow, merge}
use Rattle.dy_siblings.specs.declared.versions.Version.{Version}
use Rattle.dy_index.proofs.Besides.{map-insert}
use Rattle.dy_index.proofs.custodies.Custody.put_beside.Goals as goal

pub invariant_of-self-in_default : goal.invariant_of-self-in_default
invariant_of-self-in_default c =
    let old = c.self.inside.row.versions in
    let new = c.put_beside.new.self.versions in
    let place : (v : Version) × (v.dot ≡ c.in-Some.put.1) × (new ≡ insert old c.in-Some.put.0 v) =
    subst (λ o. IfSome o (λ p. (v : Version) × (v.dot ≡ p.1) × (new ≡ insert old p.0 v)))
    c.in-Some.is c.in_ok-put.ensures.place in
    let bound : c.in-Some.put.0 ≤ length old =
    subst (λ o. IfSome o (λ p. p.0 ≤ length old)) c.in-Some.is c.in_ok-put.ensures.bound in
    c.in_default.ensures.ok
    ∙ (ap (λ ds. insert ds c.in-Some.put.0 c.in-Some.put.1) c.self.invariant
    ∙ (ap (insert (map (λ (v : Version). v.dot) old) c.in-Some.put.0) (sym place.1)
    ∙ (sym (map-insert (λ (v : Version). v.dot) old c.in-Some.put.0 place.0 bound)
    ∙ ap (map (λ (v : Version). v.dot)) (sym place.2))))

pub returns-in_default-clause-merge : goal.returns-in_default-clause-merge
returns-in_default-clause-merge c =
    let new = c.put_beside.new.self.versions in
    subst (λ h. IsSameRow new (merge h.row.versions c.args.row.now.versions)) c.self.view_is
    (subst (λ o. IfSome o (λ p. IsSameRow new
    (merge c.self.inside.row.versions c.args.row.now.versions))) c.in-Some.is
    c.in_ok-put.ensures.merge)
