use Rattle.std.proofs.Common.{ap, ◌%◌}
use Rattle.dy_draws.proofs.draw.Goals as goal

-- both are the parts of the generator's step
pub returns-clause-value : goal.returns-clause-value
returns-clause-value c = ap (λ p. p.0 % c.args.m) c.next_word.ensures

pub returns-clause-moved : goal.returns-clause-moved
returns-clause-moved c = ap (λ p. p.1) c.next_word.ensures
