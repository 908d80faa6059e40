use Rattle.dy_ring.specs.Rings.{position_of}
use Rattle.dy_preference.proofs.Distances.{unique}
use Rattle.dy_preference.proofs.orders.order_is_unique.Goals as goal

pub returns : goal.returns
returns c =
    unique c.args.ring.now (position_of c.args.key.now) c.args.nodes.now c.nodes-nodes.ensures.valid c.position-position.ensures.small c.requires.rising c.requires.each_node
