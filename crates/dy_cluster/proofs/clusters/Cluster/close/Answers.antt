use Rattle.std.proofs.Common.{◌≡◌, ◌↔◌, sym, subst}
use Rattle.dy_dots.specs.declared.faults.Fault.TheVariants.{SharesMissing}
use Rattle.dy_shares.specs.Shares.{IsMissing}
use Rattle.dy_cluster.specs.Ends.{AtRest}
use Rattle.dy_cluster.proofs.StoreCovers.{tells_stores}
use Rattle.dy_cluster.proofs.clusters.Cluster.close.Goals as goal

-- the cluster ended, so its audit tells what the stores have
pub returns-in-Ok-clause-stores : goal.returns-in-Ok-clause-stores
returns-in-Ok-clause-stores g c =
    tells_stores g.J.Naming.ring g.J.Naming.n g.J.Naming.r _ c.args.sessions.items c.in-Ok.closed
    c.in-Ok.ensures.exact

-- what comes back is what rested
pub returns-in-Err-clause-shares_missing : goal.returns-in-Err-clause-shares_missing
returns-in-Err-clause-shares_missing g c =
    subst (λ (rest : AtRest). (c.in-Err.refused.fault ≡ SharesMissing)
    ↔ IsMissing g.J.Naming.ring.nodes rest.book.sessions rest.parts c.args.sessions.items)
    (sym c.in-Err.ensures.cluster_back) c.in-Err.ensures.shares_missing
