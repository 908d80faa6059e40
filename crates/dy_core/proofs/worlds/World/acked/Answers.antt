use Rattle.std.proofs.Common.{ap, subst}
use Rattle.dy_core.specs.Logs.{world_after}
use Rattle.dy_core.specs.Listings.{ListsAcks}
use Rattle.dy_core.proofs.Listed.{acks_listed}
use Rattle.dy_core.proofs.worlds.World.acked.Goals as goal

pub returns : goal.returns
returns c =
    rw c.as_slice.ensures.value
    (subst (λ steps. ListsAcks (world_after steps) c.self.inside.acked.items) (ap (λ log. log.steps) c.self.view_is) (acks_listed _ _ _ _ c.self.invariant.after.meets))
