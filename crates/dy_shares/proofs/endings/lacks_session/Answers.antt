use Rattle.std.proofs.Common.{rules, sym, subst, arith}
use mathlib.Core.Logic.{dite}
use native.Mathlib.Decide.{ℕ_discrete}
use Rattle.dy_shares.specs.Shares.{HasSession}
use Rattle.dy_shares.proofs.endings.lacks_session.Goals as goal

-- this one was found just now, and those before it earlier
pub loop-session-preserved : goal.loop-session-preserved
loop-session-preserved g c = λ k low. dite (ℕ_discrete k c.loop-session.session)
    (λ is. subst (λ i. HasSession i c.args.shares.now) (sym is) (c.has_session.ensures.0 (search rules)))
    (λ apart. c.loop-session.invariant k (omega arith))
