use Rattle.std.proofs.Common.{◌≡◌, map, take}
use Rattle.dy_index.proofs.dots.Dots.of.Given as goal

abbrev pub invariant-loop-version : goal.invariant-loop-version
invariant-loop-version l = l.more.items ≡ map (λ v. v.dot) (take l.version-index l.versions)
