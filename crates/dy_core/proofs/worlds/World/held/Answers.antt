use Rattle.std.proofs.Common.{ap, subst}
use Rattle.dy_core.specs.Logs.{world_after}
use Rattle.dy_core.specs.Listings.{ListsHoldings}
use Rattle.dy_core.proofs.Listed.{holdings_listed}
use Rattle.dy_core.proofs.worlds.World.held.Goals as goal

pub returns : goal.returns
returns c =
    rw c.as_slice.ensures.value
    (subst (λ steps. ListsHoldings (world_after steps) c.self.inside.held.items) (ap (λ log. log.steps) c.self.view_is)
    (holdings_listed _ _ _ _ c.self.invariant.after.meets))
