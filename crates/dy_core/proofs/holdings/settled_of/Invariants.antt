use Rattle.std.proofs.Common.{◌≡◌, take}
use Rattle.dy_core.specs.inside.Meanings.{settled_in}
use Rattle.dy_core.specs.Orders.{key_cmp, gathered}
use Rattle.dy_core.proofs.holdings.settled_of.Given as goal

abbrev pub invariant-loop-version : goal.invariant-loop-version
invariant-loop-version l = l.keys.items ≡ gathered key_cmp (λ v. settled_in l.held v.key) (λ v. v.key) (take l.version-index l.versions)
