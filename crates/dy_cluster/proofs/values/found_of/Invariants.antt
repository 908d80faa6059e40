use Rattle.std.proofs.Common.{◌≡◌, ◌++◌, drop}
use Rattle.std.specs.List.{flat_map}
use Rattle.dy_cluster.specs.inside.Pasts.{values_in}
use Rattle.dy_cluster.proofs.values.found_of.Given as goal

-- what was found, with what is to come
abbrev pub invariant-loop-holding : goal.invariant-loop-holding
invariant-loop-holding l =
    l.found.items
    ++ flat_map (λ h. values_in l.pasts h.row.key h.row.versions) (drop l.holding-index l.held)
    ≡ flat_map (λ h. values_in l.pasts h.row.key h.row.versions) l.held
