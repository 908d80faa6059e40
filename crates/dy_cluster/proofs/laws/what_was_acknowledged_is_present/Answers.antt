use Rattle.dy_cluster.proofs.CarriedOver.{is_among}
use Rattle.dy_cluster.proofs.laws.what_was_acknowledged_is_present.Goals as goal

pub returns : goal.returns
returns c = λ ring n r tellings closed ends xs are x told.
    is_among ring n r ends.0 tellings closed ends.1 xs are x told
