use Rattle.std.proofs.Common.{◌≡◌, ◌++◌, drop, map}
use Rattle.dy_siblings.specs.Siblings.{present_values}
use Rattle.dy_siblings.proofs.merging.present_values.Given as goal

abbrev pub invariant-loop-version : goal.invariant-loop-version
invariant-loop-version l = (map (λ p. (p.0, p.1.now)) l.values.items ++ present_values (drop l.version-index l.versions)) ≡ present_values l.versions
