use Rattle.std.proofs.Common.{◌≡◌, take, false}
use Rattle.dy_core.specs.Worlds.{is_issued}
use Rattle.dy_core.proofs.issuing.find.Given as goal

abbrev pub invariant-loop-version : goal.invariant-loop-version
invariant-loop-version l = is_issued (take l.version-index l.versions) l.key l.dot ≡ false
