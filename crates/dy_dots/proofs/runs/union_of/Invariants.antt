use Rattle.std.proofs.Common.{◌≡◌, ◌+◌, length, ◌++◌, ◌∷◌, [], ◌||◌}
use Rattle.dy_dots.specs.Runs.{RiseFrom, AreApart, in_runs}
use Rattle.dy_dots.specs.declared.dots.Dot.{Dot}
use Rattle.dy_dots.proofs.runs.union_of.Given as goal

abbrev pub invariant-loop-next : goal.invariant-loop-next
invariant-loop-next l = record {
  apart : AreApart (l.runs.items ++ l.run ∷ []);
  left_after : RiseFrom l.run.node l.run.first l.left;
  right_after : RiseFrom l.run.node l.run.first l.right;
  members : (d : Dot) → (in_runs (l.runs.items ++ l.run ∷ []) d || (in_runs l.left d || in_runs l.right d)) ≡ (in_runs l.a d || in_runs l.b d);
}

abbrev pub decreases-loop-next : goal.decreases-loop-next
decreases-loop-next l = length l.left + length l.right
