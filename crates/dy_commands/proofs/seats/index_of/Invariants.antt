use Rattle.std.proofs.Common.{◌≡◌, ◌==◌, ℕ, ◌<◌, false, get_or}
use Rattle.dy_commands.proofs.seats.index_of.Given as goal

-- none of those before has the number
abbrev pub invariant-loop-index : goal.invariant-loop-index
invariant-loop-index l = (k : ℕ) → k < l.index → (get_or l.numbers k 0 == l.number) ≡ false
