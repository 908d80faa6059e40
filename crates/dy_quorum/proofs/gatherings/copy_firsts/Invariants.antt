use Rattle.std.proofs.Common.{◌≡◌, take}
use Rattle.dy_quorum.specs.Gatherings.{first_answers}
use Rattle.dy_quorum.proofs.gatherings.copy_firsts.Given as goal

abbrev pub invariant-loop-seen : goal.invariant-loop-seen
invariant-loop-seen g l = record {
  chosen : l.chosen.items ≡ first_answers (take l.seen-index l.seens);
}
