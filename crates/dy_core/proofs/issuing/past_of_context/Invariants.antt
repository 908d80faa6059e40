use Rattle.std.proofs.Common.{◌≡◌, take}
use Rattle.std.specs.FinSet as set
use Rattle.dy_core.specs.inside.Meanings.{named_in}
use Rattle.dy_dots.specs.declared.dots.Dot.{Dot}
use Rattle.dy_core.proofs.issuing.past_of_context.Given as goal

abbrev pub invariant-loop-version : goal.invariant-loop-version
invariant-loop-version l = (d : Dot) → set.contains l.past d ≡ named_in (take l.version-index l.versions) l.key l.context d
