use Rattle.std.proofs.Common.{◌≡◌, drop}
use Rattle.dy_siblings.specs.inside.Merging.{with_pasts}
use Rattle.dy_siblings.proofs.pasts.add_pasts.Given as goal

abbrev pub invariant-loop-version : goal.invariant-loop-version
invariant-loop-version l = with_pasts l.past (drop l.version-index l.versions) ≡ with_pasts l.initial.past l.versions
