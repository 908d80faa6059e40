use Rattle.dy_core.specs.Worlds.{layout_of}
use Rattle.dy_book.proofs.Lasting.{vouched_later}
use Rattle.dy_book.proofs.books.Book.learn_issued.Goals as goal

-- the log begins with the front
pub returns-clause-issued : goal.returns-clause-issued
returns-clause-issued g c =
    vouched_later (layout_of g.J.Naming.ring g.J.Naming.n) c.args.front.now c.args.self.now.log
    c.learn.ensures.begins c.log_is_legal.ensures c.args.incoming.now.key c.args.incoming.now.versions
    c.requires
