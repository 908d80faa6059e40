use Rattle.std.proofs.Common.{◌≡◌, ◌+◌, ◌<◌, ℕ, drop, get_or, length}
use Rattle.std.specs.List.{position_or_len}
use Rattle.dy_lines.specs.Sessions.{was_told}
use Rattle.dy_lines.proofs.session_indexes.SessionIndex.new.Given as goal

-- the sessions from this one on are noted
abbrev pub invariant-loop-place : goal.invariant-loop-place
invariant-loop-place l = record {
  length_is : length l.places.items ≡ l.numbers;
  places_are : (number d : ℕ) → number < l.numbers →
      get_or l.places.items number d
      ≡ l.place + position_or_len (was_told number) (drop l.place l.told);
}
