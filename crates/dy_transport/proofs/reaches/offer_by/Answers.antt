use Rattle.std.proofs.Common.{subst, IfOk}
use Rattle.dy_node.specs.Nodes.{AreForOthers}
use Rattle.dy_transport.proofs.reaches.offer_by.Goals as goal

-- the node that offers has the number that was asked
pub returns-clause-for_others : goal.returns-clause-for_others
returns-clause-for_others g c =
    subst (λ n. IfOk c.offer.result (λ hints. AreForOthers n hints.items)) c.requires
    c.offer.ensures.for_others
