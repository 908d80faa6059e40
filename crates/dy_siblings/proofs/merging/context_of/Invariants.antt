use Rattle.std.proofs.Common.{◌≡◌, drop}
use Rattle.std.specs.FinSet as set
use Rattle.dy_siblings.specs.inside.Merging.{with_histories}
use Rattle.dy_siblings.proofs.merging.context_of.Given as goal

abbrev pub invariant-loop-version : goal.invariant-loop-version
invariant-loop-version l = with_histories l.context (drop l.version-index l.versions) ≡ with_histories set.empty l.versions
