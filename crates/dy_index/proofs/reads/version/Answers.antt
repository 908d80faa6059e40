use Rattle.std.proofs.Common.{None, Some, refl, ap, subst}
use Rattle.std.specs.Option.{option_copied}
use Rattle.dy_core.specs.Logs.{world_after}
use Rattle.dy_index.specs.Indexes.{IsPart}
use Rattle.dy_index.proofs.OfKeys.{found_is}
use Rattle.dy_index.proofs.reads.version.Goals as goal

pub returns-in-Some : goal.returns-in-Some
returns-in-Some c = λ steps key is.
    found_is is.layout steps is.legal key (Some c.in-Some.part.now)
    (subst (IsPart (world_after steps) key) (ap option_copied c.in-Some.is) is.part)
    c.args.dot c.counter-counter.ensures.valid.1 c.version.result c.version.ensures

pub returns-in-None : goal.returns-in-None
returns-in-None c = λ steps key is.
    found_is is.layout steps is.legal key None
    (subst (IsPart (world_after steps) key) (ap option_copied c.in-None.is) is.part)
    c.args.dot c.counter-counter.ensures.valid.1 None refl
