use Rattle.std.proofs.Common.{ℕ, ◌<◌, Bool, List, MatchBool, true, false, inr, ap, subst}
use Rattle.dy_shares.specs.Shares.{HasAll, HasNode, HasSession, IsMissing, NodePart, SessionPart}
use Rattle.dy_shares.proofs.ledgers.Ledger.lacks.Goals as goal

-- where each node has its share, the sessions tell
by_sessions : (nodes sessions : ℕ) (parts : List NodePart) (tellings : List SessionPart) →
    ((node : ℕ) → node < nodes → HasNode node parts) → (b : Bool) →
    MatchBool b ((session : ℕ) × (session < sessions) × ¬ (HasSession session tellings))
    ((session : ℕ) → session < sessions → HasSession session tellings) →
    MatchBool b (IsMissing nodes sessions parts tellings) (HasAll nodes sessions parts tellings)
by_sessions _ _ _ _ _ true lacked = inr lacked
by_sessions _ _ _ _ all false each = (all, each)

pub returns-else-lacks_node : goal.returns-else-lacks_node
returns-else-lacks_node g c =
    let nodes = g.J.Naming.ring.nodes in
    let parts = c.args.nodes.now in
    let tellings = c.args.sessions.now in
    let b = c.lacks_session.result in
    let each_node = subst (λ n. (node : ℕ) → node < n → HasNode node parts) c.self.invariant.0.0
    c.if-lacks_node.ensures in
    subst (λ s. MatchBool b (IsMissing nodes s parts tellings) (HasAll nodes s parts tellings))
    (ap (λ a. a.sessions) c.self.view_is)
    (by_sessions nodes c.self.inside.sessions parts tellings each_node b c.lacks_session.ensures)
