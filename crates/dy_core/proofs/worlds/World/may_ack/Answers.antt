use Rattle.std.proofs.Common.{◌≤◌, ◌↔◌, subst}
use Rattle.std.specs.Prelude.{IsTrue}
use Rattle.dy_core.specs.Worlds.{layout_of}
use Rattle.dy_core.specs.Logs.{world_after}
use Rattle.dy_core.specs.inside.Meanings.{CanChoose}
use Rattle.dy_core.proofs.Choosing.{choice_is_cover}
use Rattle.dy_core.proofs.worlds.World.may_ack.Goals as goal

pub returns-clause-ok : goal.returns-clause-ok
returns-clause-ok c =
    let found = c.in_ok-places.ensures in
    let covers = choice_is_cover (layout_of c.args.self.now.ring c.args.self.now.n) (world_after c.args.self.now.steps) c.args.key.now c.args.dot
    c.in_ok-places.places.items found.ok found.homes c.args.w in
    let can = subst (λ ps. IsTrue c.in_ok-yes.yes ↔ CanChoose ps c.args.w) c.as_slice.ensures.value c.in_ok-yes.ensures.ok in (
      λ yes. (c.if-w-lt1.false, subst (λ log. c.args.w ≤ log.n) c.self.view_is c.if-w-self.false, covers.0 (can.0 yes)),
      λ allowed. can.1 (covers.1 allowed.2),
    )
