use Rattle.std.proofs.Common.{ℕ, ◌<◌}
use Rattle.dy_shares.specs.Shares.{HasSession}
use Rattle.dy_shares.proofs.endings.lacks_session.Given as goal

-- each one before has its share
abbrev pub invariant-loop-session : goal.invariant-loop-session
invariant-loop-session g l = (k : ℕ) → k < l.session → HasSession k l.fn.shares
