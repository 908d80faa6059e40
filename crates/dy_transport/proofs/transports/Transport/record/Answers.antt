use Rattle.std.proofs.Common.{arith}
use Rattle.std.proofs.lemmas.Result.{on_ok_weaker}
use Rattle.dy_transport.proofs.transports.Transport.record.Goals as goal

-- the number of the step is the one after the log, which has all that the session was told
pub returns-clause-ok : goal.returns-clause-ok
returns-clause-ok g c = λ key d of.
    on_ok_weaker c.ack-gave.result (λ told. record { at = _; later = omega (arith, c.ack-gave.ensures.later); told = told })
    (c.ack-gave.ensures.share key d of)
