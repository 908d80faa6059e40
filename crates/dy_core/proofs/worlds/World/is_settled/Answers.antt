use Rattle.std.proofs.Common.{◌≡◌, ◌↔◌, true, sym, ap, ◌∙◌, subst}
use Rattle.dy_core.specs.Worlds.{IsSettled}
use Rattle.dy_core.specs.Logs.{world_after}
use Rattle.dy_core.specs.inside.Meanings.{settled_in}
use Rattle.dy_core.proofs.Listed.{settled_is}
use Rattle.dy_core.proofs.worlds.World.is_settled.Goals as goal

pub returns : goal.returns
returns c =
    subst (λ b. (b ≡ true) ↔ IsSettled (world_after c.args.self.now.steps) c.args.key.now)
    (sym (c.are_settled.ensures ∙ ap (λ hs. settled_in hs c.args.key.now) c.as_slice.ensures.value))
    (subst (λ log. (settled_in c.self.inside.held.items c.args.key.now ≡ true) ↔ IsSettled (world_after log.steps) c.args.key.now) c.self.view_is
    (settled_is _ _ _ _ _ c.self.invariant.after c.args.key.now))
