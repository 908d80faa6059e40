-- The part of the key is what the index has of it.
use Rattle.std.proofs.Common.{subst}
use Rattle.std.specs.Option.{option_copied}
use Rattle.dy_shares.specs.Shares.{steps_of}
use Rattle.dy_index.specs.Indexes.{IsPartAfter}
use Rattle.dy_book.proofs.books.Book.first_not_issued.Goals as goal

pub first_not_issued-requires : goal.first_not_issued-requires
first_not_issued-requires g c =
    let steps = steps_of c.args.self.now.log in (
      steps,
      subst (λ k. IsPartAfter steps k (option_copied c.part.result)) c.key.ensures c.part.ensures,
    )

pub returns : goal.returns
returns g c =
    let steps = steps_of c.args.self.now.log in
    c.first_not_issued.ensures steps
    (subst (λ k. IsPartAfter steps k (option_copied c.part.result)) c.key.ensures c.part.ensures)
