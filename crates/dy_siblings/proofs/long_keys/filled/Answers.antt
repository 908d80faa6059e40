-- The bytes stand before zeros.
use Rattle.std.proofs.Common.{◌++◌, drop, length, replicate, get_or, ap, ◌∙◌}
use Rattle.dy_siblings.proofs.Words.{before_zeros}
use Rattle.dy_siblings.proofs.long_keys.filled.Goals as goal

pub returns-clause-value : goal.returns-clause-value
returns-clause-value c i =
    ap (λ l. get_or (l ++ drop (length c.args.bytes.now) (replicate 64 0)) i 0) c.copy_from_slice.ensures.after
    ∙ before_zeros 64 c.args.bytes.now i
