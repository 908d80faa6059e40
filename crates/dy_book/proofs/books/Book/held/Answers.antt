use Rattle.std.proofs.Common.{subst}
use Rattle.dy_book.specs.Books.{world_of}
use Rattle.dy_index.specs.Indexes.{IsIndex}
use Rattle.dy_book.proofs.books.Book.held.Goals as goal

pub returns-clause-ok : goal.returns-clause-ok
returns-clause-ok g c =
    c.in_ok-held.ensures.ok (world_of c.args.self.now)
    (subst (λ b. IsIndex (world_of b) c.self.inside.keys.entries) c.self.view_is
    c.self.invariant.index)
