use Rattle.dy_core.specs.Worlds.{layout_of}
use Rattle.dy_core.proofs.Meeting.{empty_is_after}
use Rattle.dy_core.proofs.worlds.World.new.Goals as goal

pub invariant_of-result : goal.invariant_of-result
invariant_of-result c =
    record {
      some = c.requires.some;
      enough = c.requires.enough;
      after =
          rw (c.new.ensures.items, c.new-2.ensures.items, c.new-3.ensures.items, c.new-4.ensures.items)
          (empty_is_after (layout_of c.args.ring c.args.n));
    }
