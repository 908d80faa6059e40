use Rattle.std.proofs.Common.{rules}
use Rattle.dy_storm.proofs.FiveTokens.{spares}
use Rattle.dy_storm.proofs.rings.five_nodes.Goals as goal

-- the lists are the five tokens
pub returns-clause-memory : goal.returns-clause-memory
returns-clause-memory c = spares c.from_tokens.result c.from_tokens.ensures.memory (search rules)
