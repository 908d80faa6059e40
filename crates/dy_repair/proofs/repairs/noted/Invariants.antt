use Rattle.std.proofs.Common.{◌≡◌, ◌≤◌, map, take, length, vec_len, vec_capacity}
use Rattle.dy_reads.specs.Lists.{homes_in}
use Rattle.dy_repair.specs.Repairs.{homes_once}
use Rattle.dy_repair.proofs.repairs.noted.Given as goal

abbrev pub invariant-loop-i : goal.invariant-loop-i
invariant-loop-i g l = record {
  so_far : l.homes.items
      ≡ homes_once (homes_in l.list) (map (λ s. s.now) (take l.i l.answers));
  count : vec_len l.homes ≤ l.i;
  room : length l.answers ≤ vec_capacity l.homes;
}
