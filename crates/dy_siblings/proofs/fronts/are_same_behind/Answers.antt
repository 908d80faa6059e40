-- Two words are all fifteen bytes.
use Rattle.dy_siblings.proofs.Words.{same_last}
use Rattle.dy_siblings.proofs.fronts.are_same_behind.Goals as goal

pub returns : goal.returns
returns c =
    same_last c.args.front.now c.args.other.now c.fits-front c.fits-other c.told-front c.told-other
    c.requires c.rest.result c.rest-2.result c.rest.ensures c.rest-2.ensures
