use Rattle.std.proofs.Common.{sym, ap, ◌∙◌}
use Rattle.dy_siblings.specs.Siblings.{covers}
use Rattle.dy_core.specs.Covers.{covers_at}
use Rattle.dy_core.specs.Logs.{world_after}
use Rattle.dy_core.specs.inside.Meanings.{row_in}
use Rattle.dy_core.proofs.Listed.{covers_is}
use Rattle.dy_core.proofs.worlds.World.place_covers.Goals as goal

pub returns-in-Some : goal.returns-in-Some
returns-in-Some c =
    c.covers.ensures
    ∙ ap (λ vs. covers vs c.args.dot) c.in-Some.ensures.some
    ∙ ap (λ hs. covers (row_in hs c.args.place.holder c.args.place.home c.args.key.now) c.args.dot) c.as_slice.ensures.value
    ∙ covers_is _ _ _ _ c.self.invariant.after.meets c.args.place.holder c.args.place.home c.args.key.now c.args.dot
    ∙ ap (λ log. covers_at (world_after log.steps) c.args.key.now c.args.dot c.args.place.holder c.args.place.home) c.self.view_is

pub returns-in-None : goal.returns-in-None
returns-in-None c =
    ap (λ vs. covers vs c.args.dot) (sym c.in-None.ensures.some)
    ∙ ap (λ hs. covers (row_in hs c.args.place.holder c.args.place.home c.args.key.now) c.args.dot) c.as_slice.ensures.value
    ∙ covers_is _ _ _ _ c.self.invariant.after.meets c.args.place.holder c.args.place.home c.args.key.now c.args.dot
    ∙ ap (λ log. covers_at (world_after log.steps) c.args.key.now c.args.dot c.args.place.holder c.args.place.home) c.self.view_is
