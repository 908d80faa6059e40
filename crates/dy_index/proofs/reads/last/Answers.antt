use Rattle.std.proofs.Common.{◌∙◌, ap, subst, Some, None}
use Rattle.std.specs.Option.{option_copied}
use Rattle.dy_core.specs.Logs.{world_after}
use Rattle.dy_index.specs.Indexes.{IsPart}
use Rattle.dy_index.proofs.OfKeys.{count_is}
use Rattle.dy_index.proofs.reads.last.Goals as goal

pub returns-in-Some : goal.returns-in-Some
returns-in-Some c = λ steps key is.
    c.count.ensures
    ∙ count_is is.layout steps is.legal key (Some c.in-Some.part.now)
    (subst (IsPart (world_after steps) key) (ap option_copied c.in-Some.is) is.part) c.args.node

pub returns-in-None : goal.returns-in-None
returns-in-None c = λ steps key is.
    count_is is.layout steps is.legal key None
    (subst (IsPart (world_after steps) key) (ap option_copied c.in-None.is) is.part) c.args.node
