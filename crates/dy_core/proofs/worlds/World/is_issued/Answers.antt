use Rattle.std.proofs.Common.{◌∙◌, ap}
use Rattle.dy_core.specs.Worlds.{is_issued}
use Rattle.dy_core.specs.Logs.{world_after}
use Rattle.dy_core.proofs.Listed.{issued_same}
use Rattle.dy_core.proofs.worlds.World.is_issued.Goals as goal

pub returns : goal.returns
returns c =
    c.is_among.ensures
    ∙ ap (λ vs. is_issued vs c.args.key.now c.args.dot) c.as_slice.ensures.value
    ∙ issued_same _ _ c.self.invariant.after.meets.versions_are c.args.key.now c.args.dot
    ∙ ap (λ log. is_issued (world_after log.steps).versions c.args.key.now c.args.dot) c.self.view_is
