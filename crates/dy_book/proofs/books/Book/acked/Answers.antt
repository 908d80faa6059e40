use Rattle.std.proofs.Common.{sym, ◌∙◌, subst}
use Rattle.dy_core.specs.Listings.{ListsAcks}
use Rattle.dy_shares.specs.Shares.{steps_of}
use Rattle.dy_book.specs.Books.{world_of}
use Rattle.dy_core.specs.Orders.{ack_cmp}
use Rattle.dy_core.proofs.Held.{ack_cmp_total}
use Rattle.dy_index.specs.Lists.{IsInOrder}
use Rattle.dy_book.proofs.Ending.{acks_listed}
use Rattle.dy_book.proofs.books.Book.acked.Goals as goal

pub ordered-requires : goal.ordered-requires
ordered-requires g c = ack_cmp_total

pub returns-clause-ok : goal.returns-clause-ok
returns-clause-ok g c =
    record {
      acks =
          subst (ListsAcks (world_of c.args.self.now)) (sym c.in_ok-acked.ensures.acks)
          (subst (λ s. ListsAcks (world_of s) c.in_ok-acks.acks.items) c.self.view_is
          (acks_listed (steps_of c.self.inside.ledger.log) c.in_ok-acks.acks.items
          (subst (λ xs. IsInOrder ack_cmp xs c.in_ok-acks.acks.items)
          (c.in_ok-told.ensures.ok ∙ c.acked.ensures) c.in_ok-acks.ensures.ok)));
      places = c.in_ok-acked.ensures.places;
    }
