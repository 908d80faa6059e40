-- Which step is said by parts that are lent.
use Rattle.dy_core.specs.declared.steps.Step.{Step}
use Rattle.dy_core.specs.declared.steps.Step.TheVariants.{Issue, Hold, Release, Fetch, Ack}
use Rattle.dy_shares.specs.declared.said.Said.{Said}
use Rattle.dy_shares.specs.declared.said.Said.TheVariants.{Issued, Held, Released, Fetched, Acked}

abbrev pub step_said : Said → Step
step_said (Issued v) = Issue v.now.dot.node v.now.key v.now.past v.now.value
step_said (Held place row) = Hold place row.now
step_said (Released place key d) = Release place key.now d
step_said (Fetched place key) = Fetch place key.now
step_said (Acked key d w) = Ack key.now d w
