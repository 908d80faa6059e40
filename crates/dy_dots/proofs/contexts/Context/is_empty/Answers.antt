use Rattle.dy_dots.proofs.Unique.{empty_is}
use Rattle.dy_dots.proofs.contexts.Context.is_empty.Goals as goal

pub returns : goal.returns
returns c = empty_is c.self.inside.runs.items c.args.self.now c.is_empty.result c.self.invariant.apart c.self.view_is
    c.is_empty.ensures
