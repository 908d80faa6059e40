use Rattle.dy_cluster.proofs.Guarantees.{answer_grows, gives_replaced, gives_settled, gives_taken}
use Rattle.dy_cluster.proofs.laws.gets_give_what_homes_took.Goals as goal

pub returns-clause-taken : goal.returns-clause-taken
returns-clause-taken c = gives_taken

pub returns-clause-settled : goal.returns-clause-settled
returns-clause-settled c = gives_settled

pub returns-clause-answers : goal.returns-clause-answers
returns-clause-answers c = answer_grows

pub returns-clause-replaced : goal.returns-clause-replaced
returns-clause-replaced c = gives_replaced
