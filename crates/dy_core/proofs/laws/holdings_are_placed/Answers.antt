use Rattle.dy_core.proofs.OverLogs.{log_sound}
use Rattle.dy_core.proofs.laws.holdings_are_placed.Goals as goal

pub returns-clause-may_hold : goal.returns-clause-may_hold
returns-clause-may_hold c = λ layout steps legal holder home key d e. ((log_sound layout steps legal).held_sound holder home key d e).0

pub returns-clause-issued : goal.returns-clause-issued
returns-clause-issued c = λ layout steps legal holder home key d e. ((log_sound layout steps legal).held_sound holder home key d e).1
