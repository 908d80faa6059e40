use Rattle.std.proofs.Common.{map, sym, subst}
use Rattle.dy_core.specs.Worlds.{layout_of}
use Rattle.dy_shares.specs.inside.Parts.{AgreesAsSession}
use Rattle.dy_shares.specs.Shares.{Account, AreAll, HasAll, IsMissing, steps_of}
use Rattle.dy_shares.specs.Trails.{AreKept}
use Rattle.std.proofs.lemmas.List.Elements.{All-weaker}
use Rattle.dy_shares.proofs.Accounts.{all_are}
use Rattle.dy_shares.proofs.Returning.{agreed_before, sessions_distinct}
use Rattle.dy_shares.proofs.ledgers.Ledger.end.Goals as goal

-- what the slices lack, the lists lack
pub returns-then-lacks-clause-shares_missing : goal.returns-then-lacks-clause-shares_missing
returns-then-lacks-clause-shares_missing g c =
    let nodes = g.J.Naming.ring.nodes in
    let sessions = c.args.self.sessions in
    subst (λ xs. IsMissing nodes sessions xs c.args.sessions.items) c.as_slice.ensures.value
    (subst (λ xs. IsMissing nodes sessions c.as_slice.result.now xs) c.as_slice-2.ensures.value
    c.if-lacks.ensures)

-- none is missing, and each that was handed in agreed
pub returns-clause-exact : goal.returns-clause-exact
returns-clause-exact g c =
    let l = c.self.inside in
    let i = c.self.invariant in
    let nodes = g.J.Naming.ring.nodes in
    let r = g.J.Naming.r in
    let n_shares = c.args.nodes.items in
    let s_shares = c.args.sessions.items in
    let all = subst (λ xs. HasAll nodes l.sessions xs s_shares) c.as_slice.ensures.value
    (subst (λ xs. HasAll nodes l.sessions c.as_slice.result.now xs) c.as_slice-2.ensures.value
    (subst (λ (a : Account). HasAll nodes a.sessions c.as_slice.result.now c.as_slice-2.result.now)
    (sym c.self.view_is) c.if-lacks.ensures)) in
    let roll = c.end_nodes.new.roll in
    let as_sessions = All-weaker (AgreesAsSession nodes r roll l.chronicle) (AgreesAsSession nodes r l.roll l.chronicle) (agreed_before nodes r l.roll roll (map (λ p. p.node) n_shares) l.chronicle c.end_nodes.ensures.back) s_shares c.end_sessions.ensures.agree in
    subst (λ a. AreAll nodes r a n_shares s_shares) c.self.view_is
    (all_are nodes (layout_of g.J.Naming.ring g.J.Naming.n) l.steps l.acks.items l.sessions l.chronicle l.roll i.1 r n_shares s_shares c.end_nodes.ensures.low c.end_nodes.ensures.agree as_sessions all.0 all.1 c.end_nodes.ensures.back.distinct (sessions_distinct nodes s_shares c.end_sessions.ensures.back.distinct))

-- the trail is that of the log
pub returns-clause-trail : goal.returns-clause-trail
returns-clause-trail g c = subst (λ (a : Account). AreKept c.self.inside.trail.items (steps_of a.log)) c.self.view_is c.self.invariant.0.1
