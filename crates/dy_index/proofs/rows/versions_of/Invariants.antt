use Rattle.std.proofs.Common.{◌≡◌, take}
use Rattle.dy_index.specs.Indexes.{made_by}
use Rattle.dy_index.proofs.Picking.{picked}
use Rattle.dy_index.proofs.rows.versions_of.Given as goal

abbrev pub invariant-loop-run : goal.invariant-loop-run
invariant-loop-run l = l.versions.items ≡ picked (made_by l.known) (take l.run-index l.runs)
