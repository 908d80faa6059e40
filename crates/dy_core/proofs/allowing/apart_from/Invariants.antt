use Rattle.std.proofs.Common.{◌≡◌, take}
use Rattle.dy_core.specs.inside.Meanings.{apart_from}
use Rattle.dy_core.proofs.allowing.apart_from.Given as goal

abbrev pub invariant-loop-other : goal.invariant-loop-other
invariant-loop-other l = l.apart.items ≡ apart_from l.place (take l.other-index l.places)
