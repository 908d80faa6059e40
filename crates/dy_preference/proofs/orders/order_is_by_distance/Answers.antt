use Rattle.dy_ring.specs.Rings.{position_of}
use Rattle.dy_preference.proofs.Distances.{by_distance}
use Rattle.dy_preference.proofs.orders.order_is_by_distance.Goals as goal

pub returns : goal.returns
returns c = by_distance c.args.ring.now (position_of c.args.key.now) c.nodes-nodes.ensures.valid c.position-position.ensures.small
