-- The last word decides.
use Rattle.std.proofs.Common.{◌∙◌}
use Rattle.dy_siblings.proofs.Words.{by_last}
use Rattle.dy_siblings.proofs.fronts.order_behind.Goals as goal

pub returns : goal.returns
returns c =
    c.cmp.ensures
    ∙ by_last c.args.front.now c.args.other.now c.fits-front c.fits-other c.requires c.rest-mine.result
    c.rest-theirs.result c.rest-mine.ensures c.rest-theirs.ensures
