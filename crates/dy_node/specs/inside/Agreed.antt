-- A share and its book, as `agree` tells of them.
use Rattle.dy_core.specs.Worlds.{Layout}
use Rattle.dy_core.specs.Logs.{IsLegal}
use Rattle.dy_shares.specs.Shares.{BelongsTo, NodePart, steps_of}
use Rattle.dy_book.specs.Books.{BookParts}

-- the share belongs to the book's log, which is legal
pub record IsAgreed (layout : Layout) (b : BookParts) (p : NodePart) : Type 0 where
  pub belongs : BelongsTo (steps_of b.log) p
  pub legal : IsLegal layout (steps_of b.log)
