use Rattle.std.proofs.lemmas.Result.{IfOk-weaker}
use Rattle.dy_cluster.proofs.clusters.Cluster.handoff_by_post.Goals as goal

-- what the transport tells of it
pub returns-clause-ok : goal.returns-clause-ok
returns-clause-ok g c = IfOk-weaker c.pass.result _ _ (λ done is. (_, is)) c.pass.ensures.ok
