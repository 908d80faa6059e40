use Rattle.dy_transport.proofs.directs.Direct.ask_by_mode.Goals as goal

-- what was answered fits the ask, and a second answer stands beside a first that nothing came
pub put-requires-clause-first : goal.put-requires-clause-first
put-requires-clause-first g c = c.answer_at-first.ensures.first

pub put-requires-clause-second : goal.put-requires-clause-second
put-requires-clause-second g c = c.answer_at-first.ensures.second

pub put-requires-clause-awaited : goal.put-requires-clause-awaited
put-requires-clause-awaited g c = c.answer_at-first.ensures.awaited

pub returns : goal.returns
returns g c = rw (← c.self.view_is) c.put.ensures.told
