use Rattle.std.proofs.Common.{sym, subst}
use Rattle.dy_core.specs.Worlds.{layout_of}
use Rattle.dy_core.specs.Steps.{IsAllowed}
use Rattle.dy_core.specs.Logs.{world_after}
use Rattle.dy_core.proofs.worlds.World.allows.Goals as goal

pub returns-in-Hold-clause-ok : goal.returns-in-Hold-clause-ok
returns-in-Hold-clause-ok c =
    let allowed = IsAllowed (layout_of c.args.self.now.ring c.args.self.now.n) (world_after c.args.self.now.steps) in (
      λ yes. subst allowed (sym c.in-Hold.is) (c.may_hold.ensures.0 yes),
      λ may. c.may_hold.ensures.1 (subst allowed c.in-Hold.is may),
    )
