use Rattle.std.proofs.Common.{◌≡◌, ◌+◌, length, vec_len, vec_capacity}
use Rattle.std.specs.List.{All}
use Rattle.dy_cluster.specs.Tellings.{IsUntold}
use Rattle.dy_clients.proofs.seats.seat_all.Given as goal

-- each session is seated or left, and there is room for those that are left, which were told nothing
abbrev pub invariant-loop-session : goal.invariant-loop-session
invariant-loop-session g l =
    (vec_len l.seats + length l.sessions.items ≡ length l.initial.sessions.items)
    × (vec_capacity l.seats ≡ vec_capacity l.initial.seats)
    × (vec_capacity l.sessions ≡ vec_capacity l.initial.sessions)
    × All IsUntold l.sessions.items

abbrev pub decreases-loop-session : goal.decreases-loop-session
decreases-loop-session g l = length l.sessions.items
