use Rattle.std.proofs.Common.{subst}
use Rattle.dy_core.specs.Worlds.{layout_of}
use Rattle.dy_core.specs.Logs.{IsLegal}
use Rattle.dy_shares.specs.Shares.{steps_of}
use Rattle.dy_book.specs.Books.{BookParts}
use Rattle.dy_book.proofs.books.Book.log_is_legal.Goals as goal

-- the type keeps it
pub returns : goal.returns
returns g c =
    subst (λ (b : BookParts). IsLegal (layout_of g.J.Naming.ring g.J.Naming.n) (steps_of b.log))
    c.self.view_is c.self.invariant.legal
