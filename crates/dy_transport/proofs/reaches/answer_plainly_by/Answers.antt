use Rattle.dy_transport.proofs.Reached.{plainly_fits}
use Rattle.dy_transport.proofs.reaches.answer_plainly_by.Goals as goal

-- by the plain mode of a node that is up
pub returns-clause-answer : goal.returns-clause-answer
returns-clause-answer g c =
    plainly_fits c.args.ask.now _ _ _ _ c.answer_plainly.result c.answer_plainly.ensures.up
    c.answer_plainly.ensures.some
