use Rattle.std.proofs.Common.{subst}
use Rattle.dy_core.specs.Worlds.{layout_of}
use Rattle.dy_core.specs.Logs.{IsLegal}
use Rattle.dy_shares.specs.Shares.{steps_of}
use Rattle.dy_shares.proofs.ledgers.Ledger.steps.Goals as goal

-- as the ledger is kept
pub returns-clause-legal : goal.returns-clause-legal
returns-clause-legal g c = subst (λ a. IsLegal (layout_of g.J.Naming.ring g.J.Naming.n) (steps_of a.log)) c.self.view_is c.self.invariant.1.legal
