use Rattle.std.proofs.Common.{take}
use Rattle.std.specs.List.{All, Contains}
use Rattle.dy_core.proofs.allowing.are_among.Given as goal

abbrev pub invariant-loop-version : goal.invariant-loop-version
invariant-loop-version l = All (λ v. Contains l.versions v) (take l.version-index l.row)
