-- The first word that differs decides.
use Rattle.std.proofs.Common.{◌∙◌}
use Rattle.dy_siblings.proofs.Words.{by_first}
use Rattle.dy_siblings.proofs.fronts.order.Goals as goal

pub returns-then-mine-theirs : goal.returns-then-mine-theirs
returns-then-mine-theirs c =
    c.cmp.ensures
    ∙ by_first c.args.front.now c.args.other.now c.fits-front c.fits-other c.lead-mine.result c.lead-theirs.result
    c.lead-mine.ensures c.lead-theirs.ensures c.if-mine-theirs.true
