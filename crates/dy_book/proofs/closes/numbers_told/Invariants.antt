use Rattle.std.proofs.Common.{take}
use Rattle.dy_book.specs.Audits.{AreTold}
use Rattle.dy_book.proofs.closes.numbers_told.Given as goal

abbrev pub invariant-loop-session : goal.invariant-loop-session
invariant-loop-session g l = AreTold l.told.items (take l.session-index l.sessions)
