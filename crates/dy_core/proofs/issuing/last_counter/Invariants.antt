use Rattle.std.proofs.Common.{◌≡◌, take}
use Rattle.dy_core.specs.inside.Meanings.{last_in}
use Rattle.dy_core.proofs.issuing.last_counter.Given as goal

abbrev pub invariant-loop-version : goal.invariant-loop-version
invariant-loop-version l = l.last ≡ last_in (take l.version-index l.versions) l.node l.key
