use Rattle.dy_book.specs.Books.{world_of}
use Rattle.dy_book.proofs.books.Book.row_copy.Goals as goal

pub returns-clause-row : goal.returns-clause-row
returns-clause-row g c = c.row_copy.ensures.row (world_of c.args.self.now) c.part.ensures.part
