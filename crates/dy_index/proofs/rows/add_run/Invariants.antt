use Rattle.std.proofs.Common.{◌≡◌, ◌+◌, ◌-◌, ◌≤◌, ◌++◌, take}
use Rattle.dy_index.proofs.Picking.{named_by}
use Rattle.dy_index.proofs.rows.add_run.Given as goal

abbrev pub invariant-loop-at : goal.invariant-loop-at
invariant-loop-at l = record {
  low : l.run.first ≤ l.at + 1;
  given : l.versions.items ≡ l.initial.versions.items ++ named_by l.run (take l.at l.made);
}

abbrev pub decreases-loop-at : goal.decreases-loop-at
decreases-loop-at l = l.end - l.at
