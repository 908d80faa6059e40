use Rattle.std.proofs.Common.{◌∙◌, refl, inr}
use Rattle.dy_cluster.proofs.connections.Connection.write.Goals as goal

-- there was no memory to begin
pub returns-in-Err-clause-ends : goal.returns-in-Err-clause-ends
returns-in-Err-clause-ends g c = inr (
  refl,
  c.in-Err.ensures.err,
  (
    c.early.result,
    refl,
    c.early.ensures.dot,
    c.early.ensures.answers,
    c.early.ensures.fault ∙ c.in-Err.ensures.memory,
  ),
)
