use Rattle.std.proofs.Common.{subst}
use Rattle.dy_core.specs.Worlds.{layout_of}
use Rattle.dy_core.specs.Logs.{IsLegal}
use Rattle.dy_shares.specs.Shares.{steps_of}
use Rattle.dy_book.specs.Books.{world_of}
use Rattle.dy_index.specs.Indexes.{IsIndex}
use Rattle.dy_book.proofs.books.Book.settled.Goals as goal

pub returns-clause-ok : goal.returns-clause-ok
returns-clause-ok g c =
    let layout = layout_of g.J.Naming.ring g.J.Naming.n in
    c.in_ok-settled.ensures.ok layout (steps_of c.args.self.now.log)
    (subst (λ b. IsLegal layout (steps_of b.log)) c.self.view_is c.self.invariant.legal)
    (subst (λ b. IsIndex (world_of b) c.self.inside.keys.entries) c.self.view_is
    c.self.invariant.index)
