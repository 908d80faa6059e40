-- The history is that of the book's log, which is legal.
use Rattle.dy_shares.specs.Shares.{steps_of}
use Rattle.dy_replay.proofs.replays.replay.Goals as goal

pub play-requires : goal.play-requires
play-requires c =
    let ends = c.requires.ended.2.1 in
    record {
      some = c.requires.some;
      enough = c.requires.enough;
      legal = (steps_of c.requires.ended.2.0.book.log, ends.audit.tells.history, ends.legal);
    }

pub returns-clause-world : goal.returns-clause-world
returns-clause-world c = λ r rest tellings ends.
    c.in_ok-world.ensures.log (steps_of rest.book.log) ends.audit.tells.history
