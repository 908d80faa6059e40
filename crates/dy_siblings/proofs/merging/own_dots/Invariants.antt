use Rattle.std.proofs.Common.{◌≡◌, drop}
use Rattle.std.specs.FinSet as set
use Rattle.dy_siblings.specs.inside.Merging.{with_dots}
use Rattle.dy_siblings.proofs.merging.own_dots.Given as goal

abbrev pub invariant-loop-version : goal.invariant-loop-version
invariant-loop-version l = with_dots l.dots (drop l.version-index l.versions) ≡ with_dots set.empty l.versions
