use Rattle.std.proofs.Common.{arith}
use Rattle.dy_cluster.proofs.clusters.Cluster.node.Goals as goal

-- a ring has no more nodes than there are numbers for
pub nth-requires : goal.nth-requires
nth-requires g c =
    omega (
      arith,
      c.nodes.ensures.valid.few,
      c.nodes.ensures.value,
      c.from.ensures,
      c.if-number-from.true,
    )
