use Rattle.dy_shares.specs.Shares.{steps_of}
use Rattle.dy_book.proofs.books.Book.unknown.Goals as goal

pub returns : goal.returns
returns g c = c.unknown.ensures (steps_of c.args.self.now.log) c.args.key.now c.part.ensures
