use Rattle.std.proofs.Common.{◌∙◌, ap, length, subst, sym}
use Rattle.dy_ring.specs.Rings.{Tokens}
use Rattle.dy_cluster.specs.Firsts.{AreFirstFrom}
use Rattle.dy_cluster.proofs.Firsts.{first_in_order, first_length}
use Rattle.dy_cluster.proofs.books.open_book.Goals as goal

-- the shares are the first of each node
pub returns-in-Ok-clause-first : goal.returns-in-Ok-clause-first
returns-in-Ok-clause-first g c =
    subst (AreFirstFrom 0) (sym c.in-Ok.ensures.shares) (first_in_order g.J.Naming.ring.nodes)

pub returns-in-Ok-clause-count : goal.returns-in-Ok-clause-count
returns-in-Ok-clause-count g c =
    ap length c.in-Ok.ensures.shares ∙ first_length g.J.Naming.ring.nodes
    ∙ sym (ap (λ (t : Tokens). t.nodes) c.requires.named.1)
