use Rattle.std.proofs.Common.{◌≡◌, drop}
use Rattle.std.specs.FinMap as maps
use Rattle.dy_cluster.specs.inside.Pasts.{with_all_pasts}
use Rattle.dy_cluster.proofs.pasts.pasts_of.Given as goal

-- with the rows to come it is with all of them
abbrev pub invariant-loop-holding : goal.invariant-loop-holding
invariant-loop-holding l =
    with_all_pasts l.pasts (drop l.holding-index l.held) ≡ with_all_pasts maps.empty l.held
