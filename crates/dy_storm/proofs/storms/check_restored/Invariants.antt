use Rattle.std.proofs.Common.{take}
use Rattle.std.specs.List.{All}
use Rattle.dy_node.specs.Nodes.{IsRestored}
use Rattle.dy_storm.proofs.storms.check_restored.Given as goal

-- the nodes before this place are up and plain
abbrev pub invariant-loop-rest : goal.invariant-loop-rest
invariant-loop-rest l = All IsRestored (take l.rest-index l.rests)
