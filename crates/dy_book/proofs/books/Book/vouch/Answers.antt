use Rattle.std.proofs.Common.{List, sym, subst}
use Rattle.dy_core.specs.Worlds.{AreMadeOf}
use Rattle.dy_core.specs.Logs.{world_after}
use Rattle.dy_shares.specs.Shares.{steps_of}
use Rattle.dy_shares.specs.declared.entries.Entry.{Entry}
use Rattle.dy_book.proofs.books.Book.vouch.Goals as goal

-- the front has the whole log
pub new-requires : goal.new-requires
new-requires g c =
    subst (λ (l : List Entry). AreMadeOf (world_after (steps_of l)) c.args.row.key
    c.args.row.versions) (sym c.front.ensures) c.requires
