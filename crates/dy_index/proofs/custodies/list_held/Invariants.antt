use Rattle.std.proofs.Common.{◌≡◌, take}
use Rattle.dy_index.specs.inside.Held.{listed_from}
use Rattle.dy_index.proofs.custodies.list_held.Given as goal

abbrev pub invariant-loop-custody : goal.invariant-loop-custody
invariant-loop-custody l =
    l.held.items ≡ listed_from l.initial.held.items (take l.custody-index l.custodies)
