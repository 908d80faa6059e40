use Rattle.std.proofs.Common.{◌≡◌, length}
use Rattle.std.specs.List.{All}
use Rattle.dy_cluster.specs.Tellings.{IsUntold}
use Rattle.dy_clients.proofs.staffing.seat_clients.Given as goal

-- as many sessions are seated as rounds were made, and none was told anything
abbrev pub invariant-loop : goal.invariant-loop
invariant-loop g l =
    (length l.sessions.items ≡ l.counter) × All IsUntold l.sessions.items
