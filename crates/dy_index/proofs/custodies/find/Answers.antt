-- Where no custody is at the place, its row has no version.
use Rattle.dy_index.proofs.Besides.{nothing_there}
use Rattle.dy_index.proofs.custodies.find.Goals as goal

pub returns-in-None-clause-none : goal.returns-in-None-clause-none
returns-in-None-clause-none c =
    nothing_there c.args.holder c.args.home c.args.key.now c.args.places.now c.in-None.ensures.none

pub returns-in-None-clause-some : goal.returns-in-None-clause-some
returns-in-None-clause-some c =
    nothing_there c.args.holder c.args.home c.args.key.now c.args.places.now c.in-None.ensures.none
