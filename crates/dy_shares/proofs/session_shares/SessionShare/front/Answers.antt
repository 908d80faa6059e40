use Rattle.std.proofs.Common.{subst}
use Rattle.std.specs.List.{All}
use Rattle.dy_shares.specs.Shares.{AreSpent, GetMatches, SessionPart, steps_of}
use Rattle.dy_shares.proofs.session_shares.SessionShare.front.Goals as goal

-- as the share is kept
pub returns-clause-spent : goal.returns-clause-spent
returns-clause-spent g c = subst (λ (s : SessionPart). AreSpent (steps_of c.self.inside.front) s.acks s.spent) c.self.view_is c.self.invariant.0.spent_are

pub returns-clause-gets : goal.returns-clause-gets
returns-clause-gets g c = subst (λ (s : SessionPart). All (GetMatches (steps_of c.self.inside.front) g.J.Naming.r) s.gets) c.self.view_is c.self.invariant.0.gets_match
