use Rattle.std.proofs.Common.{◌≡◌, ◌==◌, not, length}
use Rattle.std.specs.List.{filter}
use Rattle.dy_preference.proofs.assigns.Assign.next.Given as goal

abbrev pub invariant-loop-first : goal.invariant-loop-first
invariant-loop-first l = filter (λ node. not (node == l.self-inside.coordinator)) l.self-inside.rest.now ≡ l.fn.self

abbrev pub decreases-loop-first : goal.decreases-loop-first
decreases-loop-first l = length l.self-inside.rest.now
