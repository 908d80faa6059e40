use Rattle.std.proofs.Common.{subst, IfOk}
use Rattle.dy_core.specs.Worlds.{layout_of}
use Rattle.dy_transport.specs.Asking.{IsBegun}
use Rattle.dy_transport.proofs.reaches.Reach.begin_at.Goals as goal

-- the copy is the value that was given
pub returns-clause-begun : goal.returns-clause-begun
returns-clause-begun g c =
    subst (λ v. IfOk c.begin_by.result
    (λ b. IsBegun (layout_of g.J.Naming.ring g.J.Naming.n) c.args.place.holder c.args.place.home c.args.key.now c.args.context.now v b))
    c.in_ok-copy.ensures.value c.begin_by.ensures.begun
