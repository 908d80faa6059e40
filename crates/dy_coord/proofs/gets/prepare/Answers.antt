use Rattle.dy_coord.proofs.gets.prepare.Goals as goal

-- it needs as many homes as were named
pub returns-clause-empty : goal.returns-clause-empty
returns-clause-empty g c = rw c.most_answers-room.ensures.value at c.in_ok-gathering.ensures.value
