use Rattle.std.proofs.Common.{◌≡◌}
use Rattle.crossbeam_channel.specs.Claims.{view}
use Rattle.dy_channels.proofs.ends.Receiver.receive.Given as goal

-- nothing came while nothing is handed on
abbrev pub invariant-loop : goal.invariant-loop
invariant-loop g l = view l.self.pass ≡ view l.initial.self.pass
