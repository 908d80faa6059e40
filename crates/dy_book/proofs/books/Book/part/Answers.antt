use Rattle.std.proofs.Common.{sym, subst}
use Rattle.dy_core.specs.Worlds.{layout_of}
use Rattle.dy_book.specs.Books.{world_of}
use Rattle.dy_index.specs.Indexes.{IsPart, part_at}
use Rattle.dy_book.proofs.books.Book.part.Goals as goal

-- a look-up among the entries is the index's
pub returns : goal.returns
returns g c = record {
  layout = layout_of g.J.Naming.ring g.J.Naming.n;
  legal = c.log_is_legal.ensures;
  part = subst (IsPart (world_of c.args.self.now) c.args.key.now) (sym c.get.ensures.value)
      (subst (λ b. IsPart (world_of b) c.args.key.now
      (part_at c.self.inside.keys.entries c.args.key.now)) c.self.view_is
      (c.self.invariant.index c.args.key.now));
}
