use Rattle.std.proofs.Common.{arith}
use Rattle.std.proofs.lemmas.Bool.{eqb-false}
use Rattle.dy_ring.proofs.Deriving.{some_derived}
use Rattle.dy_ring.proofs.givens.derives_none.Goals as goal

pub returns-else-nodes-eq0-clause-no : goal.returns-else-nodes-eq0-clause-no
returns-else-nodes-eq0-clause-no c =
    λ some node.
    let h = eqb-false c.args.per_node 0 some in
    some_derived c.args.nodes c.args.per_node node (omega (arith, c.if-nodes-eq0.false)) (omega (arith, h))
