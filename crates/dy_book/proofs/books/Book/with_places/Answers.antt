use Rattle.std.proofs.Common.{◌++◌, map, sym, ap, ◌∙◌, subst}
use Rattle.std.specs.List.{All}
use Rattle.dy_core.specs.Listings.{ListsCovers}
use Rattle.dy_book.specs.Books.{world_of}
use Rattle.dy_book.specs.declared.audits.AckedAt.{AckedAt}
use Rattle.dy_book.proofs.Ending.{acks_go, all_end}
use Rattle.dy_book.proofs.books.Book.with_places.Goals as goal

pub loop-ack-preserved : goal.loop-ack-preserved
loop-ack-preserved g c =
    record {
      acks =
          ap (λ ys. map (λ (y : AckedAt). y.ack) ys ++ c.next.new.self.rest.items)
          c.in_ok-push.ensures.items
          ∙ acks_go c.loop-ack.acked.items
          (record { ack = c.in-Some.ack; places = c.in_ok-places.places })
          c.next.new.self.rest.items
          ∙ ap (λ zs. map (λ (y : AckedAt). y.ack) c.loop-ack.acked.items ++ zs)
          (sym c.in-Some.ensures.steps.0)
          ∙ c.loop-ack.invariant.acks;
      places =
          subst (All (λ (x : AckedAt). ListsCovers
          (world_of c.args.self.now) x.ack.key x.ack.dot x.places.items))
          (sym c.in_ok-push.ensures.items)
          (all_end (λ (x : AckedAt). ListsCovers
          (world_of c.args.self.now) x.ack.key x.ack.dot x.places.items) c.loop-ack.acked.items
          (record { ack = c.in-Some.ack; places = c.in_ok-places.places })
          c.loop-ack.invariant.places c.in_ok-places.ensures.ok);
    }
