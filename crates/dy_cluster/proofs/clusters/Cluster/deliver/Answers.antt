use Rattle.std.proofs.Common.{refl}
use Rattle.std.proofs.lemmas.Result.{IfOk-weaker}
use Rattle.dy_cluster.proofs.Delivered.{delivery_refused}
use Rattle.dy_cluster.proofs.clusters.Cluster.deliver.Goals as goal

-- what the node tells of it
pub returns : goal.returns
returns g c = record {
  ok = IfOk-weaker c.deliver.result _ _
      (λ n is. record {
        before = _;
        after = _;
        book = _;
        book_after = _;
        count_is = is.0;
        delivered = is.1;
      }) c.deliver.ensures.ok;
  only = delivery_refused _ c.deliver.result c.deliver.ensures.down c.deliver.ensures.stopped
      (λ f is. is.4.only f refl);
}
