use Rattle.dy_cluster.specs.PresentValues.{ArePresent, present_cmp}
use Rattle.dy_index.specs.Lists.{IsInOrder}
use Rattle.std.proofs.lemmas.Result.{IfOk-weaker}
use Rattle.dy_cluster.proofs.Presenting.{are_present}
use Rattle.dy_cluster.proofs.values.values_of.Goals as goal

pub returns-clause-ok : goal.returns-clause-ok
returns-clause-ok c =
    IfOk-weaker c.ordered.result (λ list. IsInOrder present_cmp c.in_ok-found.found.items list.items)
    (λ list. ArePresent c.args.held.now list.items)
    (λ list order. are_present c.args.held.now c.in_ok-pasts.pasts c.in_ok-found.found.items list.items
    c.in_ok-pasts.ensures.ok c.in_ok-found.ensures.ok order) c.ordered.ensures.ok
