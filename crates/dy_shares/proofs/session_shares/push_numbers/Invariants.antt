use Rattle.std.proofs.Common.{◌≡◌, ◌++◌, map, take, vec_capacity}
use Rattle.dy_core.specs.Logs.{Answer}
use Rattle.dy_shares.proofs.session_shares.push_numbers.Given as goal

-- the numbers of the answers so far are there
abbrev pub invariant-loop-seen : goal.invariant-loop-seen
invariant-loop-seen g l = record {
  given : l.numbers.items ≡ l.initial.numbers.items ++ map (λ (a : Answer). a.at) (take l.seen-index l.fn.seens);
  room : vec_capacity l.numbers ≡ vec_capacity l.initial.numbers;
}
