use Rattle.dy_coord.proofs.get_done.GetDone.values.Goals as goal

-- they are those of the row
pub returns-clause-ok : goal.returns-clause-ok
returns-clause-ok g c = c.values.ensures.ok
