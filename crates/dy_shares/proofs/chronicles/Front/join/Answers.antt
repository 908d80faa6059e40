use Rattle.std.proofs.Common.{subst}
use mathlib.Core.List.{IsPrefix}
use Rattle.dy_shares.specs.inside.Growth.{joined}
use Rattle.dy_shares.proofs.Fronts.{joined_prefix}
use Rattle.dy_shares.proofs.chronicles.Front.join.Goals as goal

-- of batches that begin others, what they have begins what those have
pub returns-clause-own : goal.returns-clause-own
returns-clause-own g c =
    subst (λ l. IsPrefix l (joined c.learn.new.self.log)) c.self.view_is (joined_prefix c.self.inside.seen.log c.learn.new.self.log c.learn.ensures.2)

pub returns-clause-other : goal.returns-clause-other
returns-clause-other g c =
    subst (λ l. IsPrefix l (joined c.learn.new.self.log)) c.other.view_is (joined_prefix c.other.inside.seen.log c.learn.new.self.log c.learn.ensures.3)
