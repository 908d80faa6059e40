use Rattle.std.proofs.Common.{◌≡◌, ◌≤◌, map, take, length}
use Rattle.dy_hint_store.specs.Hints.{shown}
use Rattle.dy_node.proofs.offers.copied.Given as goal

abbrev pub invariant-loop-hint : goal.invariant-loop-hint
invariant-loop-hint l = (l.copies.items ≡ map shown (take l.hint-index l.hints))
    × (length l.copies.items ≡ l.hint-index) × (length l.hints ≤ l.copies.cap)
