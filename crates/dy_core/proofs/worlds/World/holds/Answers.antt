use Rattle.std.proofs.Common.{sym, ap, ◌∙◌}
use Rattle.dy_siblings.specs.Siblings.{has_dot}
use Rattle.dy_core.specs.Logs.{world_after}
use Rattle.dy_core.specs.inside.Meanings.{row_in}
use Rattle.dy_core.proofs.Listed.{held_in}
use Rattle.dy_core.proofs.worlds.World.holds.Goals as goal

pub returns-in-Some : goal.returns-in-Some
returns-in-Some c =
    c.is_own.ensures
    ∙ ap (λ vs. has_dot vs c.args.dot) (c.versions.ensures.value ∙ c.in-Some.ensures.some)
    ∙ ap (λ hs. has_dot (row_in hs c.args.holder c.args.home c.args.key.now) c.args.dot) c.as_slice.ensures.value
    ∙ held_in _ _ _ _ _ c.self.invariant.after c.args.holder c.args.home c.args.key.now c.args.dot
    ∙ ap (λ log. (world_after log.steps).holdings c.args.holder c.args.home c.args.key.now c.args.dot) c.self.view_is

pub returns-in-None : goal.returns-in-None
returns-in-None c =
    ap (λ vs. has_dot vs c.args.dot) (sym c.in-None.ensures.some)
    ∙ ap (λ hs. has_dot (row_in hs c.args.holder c.args.home c.args.key.now) c.args.dot) c.as_slice.ensures.value
    ∙ held_in _ _ _ _ _ c.self.invariant.after c.args.holder c.args.home c.args.key.now c.args.dot
    ∙ ap (λ log. (world_after log.steps).holdings c.args.holder c.args.home c.args.key.now c.args.dot) c.self.view_is
