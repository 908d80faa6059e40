use Rattle.dy_cluster.proofs.StoreCovers.{stores_cover, tells_stores}
use Rattle.dy_cluster.proofs.laws.stores_cover_acks.Goals as goal

pub returns-clause-held : goal.returns-clause-held
returns-clause-held c = λ ring n r tellings closed ends.
    (tells_stores ring n r ends.0 tellings closed ends.1).held

pub returns-clause-covered : goal.returns-clause-covered
returns-clause-covered c = λ ring n r tellings closed ends x told.
    stores_cover ring n r ends.0 tellings closed ends.1 x told
