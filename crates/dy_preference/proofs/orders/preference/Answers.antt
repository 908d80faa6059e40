use Rattle.std.proofs.Common.{◌∙◌, ap, sym, subst, arith}
use Rattle.dy_ring.specs.Rings.{position_of}
use Rattle.dy_preference.specs.Preferences.{IsByDistance, Preferred}
use Rattle.dy_preference.proofs.orders.preference.Goals as goal

-- each node comes once, so there are as many as the ring has
pub of-requires : goal.of-requires
of-requires c =
    let by : IsByDistance c.args.ring.now (position_of c.args.key.now) c.in_order-nodes.result.items = c.in_order-nodes.ensures.order in
    record {
      some = c.requires.some;
      enough = omega (arith, by.count, c.requires.enough);
      few = c.in_order-nodes.ensures.few;
      distinct = by.once;
    }

pub returns-clause-nodes : goal.returns-clause-nodes
returns-clause-nodes c = ap (λ (p : Preferred). p.nodes) c.of.ensures ∙ c.in_order-nodes.ensures.nodes

pub returns-clause-order : goal.returns-clause-order
returns-clause-order c =
    subst (IsByDistance c.args.ring.now (position_of c.args.key.now)) (sym (ap (λ (p : Preferred). p.nodes) c.of.ensures)) c.in_order-nodes.ensures.order

pub returns-clause-homes : goal.returns-clause-homes
returns-clause-homes c = ap (λ (p : Preferred). p.n) c.of.ensures
