use Rattle.dy_script.specs.Reading.{token_at}
use Rattle.dy_script.proofs.ListsRead.{HasRead}
use Rattle.dy_script.proofs.reading.token_list.Given as goal

abbrev pub invariant-loop-text : goal.invariant-loop-text
invariant-loop-text l = HasRead token_at l.texts l.text-index l.found.items
