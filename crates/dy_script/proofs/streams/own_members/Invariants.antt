use Rattle.std.proofs.Common.{length}
use Rattle.dy_script.proofs.CommandsRead.{HasPassed}
use Rattle.dy_script.proofs.streams.own_members.Given as goal

abbrev pub invariant-members : goal.invariant-members
invariant-members l = HasPassed l.initial.reader l.own.items l.reader

abbrev pub decreases-members : goal.decreases-members
decreases-members l = length l.reader
