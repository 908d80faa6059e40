use Rattle.std.proofs.Common.{◌≡◌, ◌+◌, true, length, vec_len, vec_capacity}
use Rattle.dy_clients.specs.Tellings.{AreAnswered, as_answered}
use Rattle.dy_clients.proofs.seats.rise_all.Given as goal

-- each session is seated or back with its client's answer, there is room for those that are seated,
-- and of those that are back it is said so, unless of one it was not
abbrev pub invariant-loop-lock : goal.invariant-loop-lock
invariant-loop-lock g l = record {
  seated : vec_len l.seats + length l.sessions.items ≡ vec_len l.initial.seats;
  memory : vec_capacity l.sessions ≡ vec_capacity l.initial.sessions;
  answered : length l.answers.items ≡ length l.sessions.items;
  answers_memory : vec_capacity l.answers ≡ vec_capacity l.initial.answers;
  told : l.are_told ≡ true →
      AreAnswered (as_answered g.T.Telling.told) l.answers.items l.sessions.items;
}

abbrev pub decreases-loop-lock : goal.decreases-loop-lock
decreases-loop-lock g l = goal.left-loop-lock g l
