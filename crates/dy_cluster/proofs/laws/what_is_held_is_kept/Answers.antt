use Rattle.dy_cluster.proofs.Stored.{held_kept, held_one, kept_held}
use Rattle.dy_cluster.proofs.laws.what_is_held_is_kept.Goals as goal

pub returns-clause-kept : goal.returns-clause-kept
returns-clause-kept c = λ ring n r tellings closed ends key v. (
  held_kept ring n r ends.0 tellings closed ends.1 key v,
  kept_held ring n r ends.0 tellings closed ends.1 key v,
)

pub returns-clause-one : goal.returns-clause-one
returns-clause-one c = λ ring n r tellings closed ends key.
    held_one ring n r ends.0 tellings closed ends.1 key
