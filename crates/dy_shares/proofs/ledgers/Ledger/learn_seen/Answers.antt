use Rattle.std.proofs.Common.{subst}
use Rattle.dy_core.specs.Logs.{IsAnswer}
use Rattle.dy_shares.specs.Shares.{steps_of}
use Rattle.dy_shares.proofs.Later.{answer_later}
use Rattle.dy_shares.proofs.ledgers.Ledger.learn_seen.Goals as goal

-- what the front had at the number, each log that begins with it has
pub returns-clause-is : goal.returns-clause-is
returns-clause-is g c =
    subst (λ a. IsAnswer (steps_of a.log) c.args.seen.now) c.self.view_is
    (answer_later c.front.result.now c.self.inside.chronicle c.args.seen.now c.learn.ensures.begins c.front.ensures.is)
