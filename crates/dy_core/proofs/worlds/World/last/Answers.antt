use Rattle.std.proofs.Common.{ap, ◌∙◌}
use Rattle.dy_core.specs.Logs.{world_after}
use Rattle.dy_core.specs.inside.Meanings.{last_in}
use Rattle.dy_core.proofs.Listed.{last_listed}
use Rattle.dy_core.proofs.worlds.World.last.Goals as goal

pub returns : goal.returns
returns c =
    c.last_counter.ensures
    ∙ ap (λ vs. last_in vs c.args.node c.args.key.now) c.as_slice.ensures.value
    ∙ last_listed _ _ _ _ _ c.self.invariant.after c.args.node c.args.key.now
    ∙ ap (λ log. (world_after log.steps).counters c.args.node c.args.key.now) c.self.view_is
