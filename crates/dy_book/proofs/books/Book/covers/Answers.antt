use Rattle.dy_book.specs.Books.{world_of}
use Rattle.dy_book.proofs.books.Book.covers.Goals as goal

pub returns-clause-ok : goal.returns-clause-ok
returns-clause-ok g c = c.in_ok-places.ensures.ok (world_of c.args.self.now) c.part.ensures.part
