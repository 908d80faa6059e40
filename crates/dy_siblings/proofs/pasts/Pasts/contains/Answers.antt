use Rattle.dy_siblings.proofs.Walking.{past_of_one, past_of_other}
use Rattle.dy_siblings.proofs.pasts.Pasts.contains.Goals as goal

pub returns-then-is_past : goal.returns-then-is_past
returns-then-is_past c =
    past_of_one c.args.self.now c.self.inside.a.now c.self.inside.b.now c.args.dot c.is_past.result c.self.view_is c.is_past.ensures c.if-is_past.true

pub returns-else-is_past : goal.returns-else-is_past
returns-else-is_past c =
    past_of_other c.args.self.now c.self.inside.a.now c.self.inside.b.now c.args.dot c.is_past.result c.self.view_is c.is_past.ensures
    c.is_past-else-is_past.result c.if-is_past.false c.is_past-else-is_past.ensures
