use Rattle.std.proofs.Common.{◌≡◌, ◌↔◌, List, sym, ap, subst}
use Rattle.dy_dots.specs.declared.faults.Fault.TheVariants.{SharesMissing}
use Rattle.dy_shares.specs.Shares.{IsMissing, NodePart}
use Rattle.dy_book.specs.Books.{BookParts}
use Rattle.dy_cluster.specs.Ends.{AtRest}
use Rattle.dy_cluster.proofs.resting.Resting.close.Goals as goal

-- the book and the shares are those that rested
pub returns-in-Ok-clause-missing : goal.returns-in-Ok-clause-missing
returns-in-Ok-clause-missing g c =
    let nodes = g.J.Naming.ring.nodes in
    let sessions = c.args.sessions.items in
    let book_is = ap (λ (s : AtRest). s.book) c.self.view_is in
    let parts_are = ap (λ (s : AtRest). s.parts) c.self.view_is in
    λ missing. c.in-Ok.ensures.missing
    (subst (λ (b : BookParts). IsMissing nodes b.sessions c.self.inside.shares.items sessions)
    (sym book_is)
    (subst (λ (ps : List NodePart). IsMissing nodes c.args.self.book.sessions ps sessions)
    (sym parts_are) missing))

pub returns-in-Err-clause-shares_missing : goal.returns-in-Err-clause-shares_missing
returns-in-Err-clause-shares_missing g c =
    let nodes = g.J.Naming.ring.nodes in
    let sessions = c.args.sessions.items in
    let book_is = ap (λ (s : AtRest). s.book) c.self.view_is in
    let parts_are = ap (λ (s : AtRest). s.parts) c.self.view_is in
    subst (λ (b : BookParts). (c.in-Err.refused.fault ≡ SharesMissing)
    ↔ IsMissing nodes b.sessions c.args.self.parts sessions) book_is
    (subst (λ (ps : List NodePart). (c.in-Err.refused.fault ≡ SharesMissing)
    ↔ IsMissing nodes c.self.inside.book.sessions ps sessions) parts_are
    c.in-Err.ensures.shares_missing)
