use Rattle.dy_script.specs.Reading.{key_at}
use Rattle.dy_script.proofs.ListsRead.{HasRead}
use Rattle.dy_script.proofs.reading.keys_in.Given as goal

abbrev pub invariant-loop-value : goal.invariant-loop-value
invariant-loop-value l = HasRead key_at l.list l.value-index l.found.items
