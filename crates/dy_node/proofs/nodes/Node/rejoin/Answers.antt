-- What holds of the share and of the rest as it is seen holds of its parts.
use Rattle.std.proofs.Common.{sym, subst}
use Rattle.dy_node.specs.Nodes.{AreDeferred, RestState}
use Rattle.dy_node.specs.Stored.{Shows}
use Rattle.dy_node.proofs.nodes.Node.rejoin.Goals as goal

pub invariant_of-result : goal.invariant_of-result
invariant_of-result g c =
    let P : RestState → Type 0 = λ rest. Shows c.args.share rest.stored in
    let Q : RestState → Type 0 = λ rest. AreDeferred g.J.Naming.ring g.J.Naming.n c.args.share.node rest.waiting in
    (subst P (sym c.rest.view_is) c.requires.shown, subst Q (sym c.rest.view_is) c.requires.deferred)
