use Rattle.std.proofs.Common.{MatchBool, List, subst}
use Rattle.dy_shares.specs.Shares.{HasAll, IsMissing, NodePart}
use Rattle.dy_cluster.specs.Ends.{AtRest}
use Rattle.dy_cluster.proofs.resting.Resting.lacks.Goals as goal

-- the book and the shares are those that rest
pub returns : goal.returns
returns g c =
    let nodes = g.J.Naming.ring.nodes in
    let sessions = c.args.sessions.now in
    let opened = c.self.inside.book.sessions in
    subst (λ (s : AtRest). MatchBool c.lacks.result
    (IsMissing nodes s.book.sessions s.parts sessions)
    (HasAll nodes s.book.sessions s.parts sessions)) c.self.view_is
    (subst (λ (ps : List NodePart). MatchBool c.lacks.result
    (IsMissing nodes opened ps sessions) (HasAll nodes opened ps sessions))
    c.as_slice.ensures.value c.lacks.ensures)
