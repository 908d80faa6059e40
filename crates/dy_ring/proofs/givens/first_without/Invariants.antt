use Rattle.std.proofs.Common.{◌≡◌, ◌<◌, ◌==◌, ℕ, false, length, map, get_or, []}
use Rattle.dy_ring.proofs.givens.first_without.Given as goal

abbrev pub invariant-loop-number : goal.invariant-loop-number
invariant-loop-number l =
    (k : ℕ) → k < l.number → (length (get_or (map (λ list. list.items) l.lists) k []) == 0) ≡ false
