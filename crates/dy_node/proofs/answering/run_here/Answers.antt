use Rattle.std.proofs.Common.{sym, subst}
use Rattle.dy_node.specs.Answers.{IsDone}
use Rattle.dy_node.specs.declared.asks.Answer.TheVariants.{Refused, Rows}
use Rattle.dy_node.proofs.answering.run_here.Goals as goal

-- a store that is refused changes nothing
pub returns-in-Err-clause-done : goal.returns-in-Err-clause-done
returns-in-Err-clause-done g c =
    subst (λ a. IsDone {J = g.row.J.Denot} a c.args.node.now c.args.book.now c.store_lent.new.self
    c.store_lent.new.book (Refused c.in-Err.fault)) (sym c.in-Store.is)
    (c.in-Err.ensures.err, c.in-Err.ensures.book, c.in-Err.ensures.refused)

-- the row is fetched
pub returns-in-Ok-fetch-clause-done : goal.returns-in-Ok-fetch-clause-done
returns-in-Ok-fetch-clause-done g c =
    subst (λ a. IsDone {J = g.row.J.Denot} a c.args.node.now c.args.book.now c.fetch.new.self
    c.fetch.new.book (Rows c.in-Ok-fetch.seen)) (sym c.in-Fetch.is)
    (record {
      node = c.in-Ok-fetch.ensures.node;
      log = c.in-Ok-fetch.ensures.log;
      holder_is = c.in-Ok-fetch.ensures.holder;
      home_is = c.in-Ok-fetch.ensures.home;
      key_is = c.in-Ok-fetch.ensures.key;
      row_is = c.in-Ok-fetch.ensures.row;
      at = c.in-Ok-fetch.ensures.at;
      later = c.in-Ok-fetch.ensures.later;
    })
