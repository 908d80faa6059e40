use Rattle.std.proofs.Common.{ℕ, ◌<◌, ◌≤◌, ◌-◌, get_or, length}
use Rattle.dy_dots.specs.inside.Kinds.{IsBelow, IsReached}
use Rattle.dy_dots.proofs.runs.place_of.Given as goal

abbrev pub invariant-loop-low : goal.invariant-loop-low
invariant-loop-low l = record {
  order : l.low ≤ l.high;
  within : l.high ≤ length l.runs;
  below : (k : ℕ) → k < l.low → IsBelow (get_or l.runs k l.dot) l.dot;
  reached : l.high < length l.runs → IsReached (get_or l.runs l.high l.dot) l.dot;
}

abbrev pub decreases-loop-low : goal.decreases-loop-low
decreases-loop-low l = l.high - l.low
