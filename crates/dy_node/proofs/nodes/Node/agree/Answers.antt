use Rattle.std.proofs.Common.{subst}
use Rattle.dy_core.specs.Worlds.{layout_of}
use Rattle.dy_book.specs.Books.{world_of}
use Rattle.dy_node.specs.Nodes.{HoldsAs}
use Rattle.dy_node.proofs.Kept.{state_holds}
use Rattle.dy_node.proofs.nodes.Node.agree.Goals as goal

-- what is kept is what the share shows, and that is what the world holds
pub returns-clause-holds : goal.returns-clause-holds
returns-clause-holds g c =
    subst (HoldsAs (world_of c.args.book.now)) c.self.view_is
    (state_holds (layout_of g.J.Naming.ring g.J.Naming.n) c.args.book.now c.self.inside.share
    c.self.inside.stores
    (record { belongs = c.agree.ensures.belongs; legal = c.agree.ensures.legal })
    c.self.invariant.0)
