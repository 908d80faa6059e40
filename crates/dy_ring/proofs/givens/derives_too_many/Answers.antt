use Rattle.std.proofs.Common.{arith}
use Rattle.std.proofs.lemmas.Bool.Decides.{nat_tests}
use Rattle.dy_ring.proofs.Deriving.{too_many_derived}
use Rattle.dy_ring.proofs.givens.derives_too_many.Goals as goal

pub returns-then-nodes-gt-MAX_NODES : goal.returns-then-nodes-gt-MAX_NODES
returns-then-nodes-gt-MAX_NODES c =
    let h = too_many_derived c.args.nodes c.args.per_node in
    grind (arith, nat_tests)

pub returns-then-nodes-gt0 : goal.returns-then-nodes-gt0
returns-then-nodes-gt0 c =
    let h = too_many_derived c.args.nodes c.args.per_node in
    grind (arith, nat_tests)
