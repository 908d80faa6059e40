use Rattle.dy_transport.proofs.directs.DirectTransport.ask.Goals as goal

-- what was answered fits the ask
pub put-requires-clause-first : goal.put-requires-clause-first
put-requires-clause-first g c = c.in-Some.ensures
