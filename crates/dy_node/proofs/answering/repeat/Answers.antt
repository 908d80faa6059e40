use Rattle.dy_node.proofs.answering.repeat.Goals as goal

-- each time where the one before ended
pub returns : goal.returns
returns g c = record {
  node = c.run-first.new.node;
  node_again = c.run-second.new.node;
  book = c.run-first.new.book;
  book_again = c.run-second.new.book;
  first = c.run-first.result;
  second = c.run-second.result;
  is_first = c.run-first.ensures.done;
  is_second = c.run-second.ensures.done;
  is_third = c.run.ensures.done;
}
