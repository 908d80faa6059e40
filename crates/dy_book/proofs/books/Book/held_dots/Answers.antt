use Rattle.dy_shares.specs.Shares.{steps_of}
use Rattle.dy_book.proofs.books.Book.held_dots.Goals as goal

pub returns : goal.returns
returns g c = c.held_dots.ensures (steps_of c.args.self.now.log) c.part.ensures
