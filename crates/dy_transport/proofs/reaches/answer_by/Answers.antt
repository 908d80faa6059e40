use Rattle.dy_transport.proofs.Reached.{answers_fit}
use Rattle.dy_transport.proofs.reaches.answer_by.Goals as goal

-- by the node's flag and mode
pub returns-clause-first : goal.returns-clause-first
returns-clause-first g c =
    (answers_fit c.args.ask.now _ _ _ _ c.answer.result.0 c.answer.result.1
    c.answer.ensures.down.1 c.answer.ensures.nothing c.answer.ensures.up).is_first

pub returns-clause-second : goal.returns-clause-second
returns-clause-second g c =
    (answers_fit c.args.ask.now _ _ _ _ c.answer.result.0 c.answer.result.1
    c.answer.ensures.down.1 c.answer.ensures.nothing c.answer.ensures.up).is_second

pub returns-clause-awaited : goal.returns-clause-awaited
returns-clause-awaited g c =
    (answers_fit c.args.ask.now _ _ _ _ c.answer.result.0 c.answer.result.1
    c.answer.ensures.down.1 c.answer.ensures.nothing c.answer.ensures.up).is_awaited
