use Rattle.std.proofs.Common.{◌≡◌, map, take}
use Rattle.dy_cluster.proofs.clusters.Cluster.show.Given as goal

abbrev pub invariant-loop-row : goal.invariant-loop-row
invariant-loop-row g l = l.copies.items ≡ map (λ row. (row.0, row.1.now)) (take l.row-index l.row-items)
