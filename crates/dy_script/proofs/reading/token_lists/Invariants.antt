use Rattle.std.proofs.Common.{map, vec_items}
use Rattle.dy_script.specs.Reading.{tokens_at}
use Rattle.dy_script.proofs.ListsRead.{HasRead}
use Rattle.dy_script.proofs.reading.token_lists.Given as goal

abbrev pub invariant-loop-list : goal.invariant-loop-list
invariant-loop-list l = HasRead tokens_at l.lists l.list-index (map vec_items l.found.items)
