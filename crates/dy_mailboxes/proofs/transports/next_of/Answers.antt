use Rattle.dy_mailboxes.proofs.transports.next_of.Goals as goal

-- no ask is unsent
pub returns-in-Some-take-clause-unsent : goal.returns-in-Some-take-clause-unsent
returns-in-Some-take-clause-unsent g c = λ k s is. absurd (c.in_default.ensures.all_sent k s is)
