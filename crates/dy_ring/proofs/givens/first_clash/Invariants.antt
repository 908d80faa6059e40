use Rattle.std.proofs.Common.{◌≡◌, drop}
use Rattle.dy_ring.specs.inside.Making.{clash_after, clash_of}
use Rattle.dy_ring.proofs.givens.first_clash.Given as goal

abbrev pub invariant-loop-token : goal.invariant-loop-token
invariant-loop-token l = clash_after l.last (drop l.token-index l.rest) ≡ clash_of l.fn.tokens
