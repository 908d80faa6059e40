use Rattle.dy_core.proofs.GetsOfHomes.{get_grows, grows}
use Rattle.dy_core.proofs.laws.homes_answers_grow.Goals as goal

pub returns-clause-answer : goal.returns-clause-answer
returns-clause-answer c = grows

pub returns-clause-get : goal.returns-clause-get
returns-clause-get c = get_grows
