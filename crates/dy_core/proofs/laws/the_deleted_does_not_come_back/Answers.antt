use Rattle.dy_core.specs.Worlds.{layout_of}
use Rattle.dy_core.proofs.GetsOfHomes.{homes_show, settled_get, stays_away}
use Rattle.dy_core.proofs.laws.the_deleted_does_not_come_back.Goals as goal

pub returns-clause-covered : goal.returns-clause-covered
returns-clause-covered c = stays_away

pub returns-clause-taken : goal.returns-clause-taken
returns-clause-taken c = λ ring n steps legal v made since took have r answers get homes enough.
    stays_away (layout_of ring n) steps legal v made r since answers get
    (homes_show ring n steps legal v.key since v.dot took have r answers get homes enough)

pub returns-clause-settled : goal.returns-clause-settled
returns-clause-settled c = λ ring n steps legal v made since settled w acked r answers get homes enough.
    stays_away (layout_of ring n) steps legal v made r since answers get
    (settled_get ring n steps legal v.key since settled v.dot w acked r answers get homes enough)
