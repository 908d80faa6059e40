use Rattle.std.proofs.Common.{◌≡◌, ◌≤◌, map, take, length, vec_len, vec_capacity}
use Rattle.std.specs.List.{filter}
use Rattle.dy_repair.specs.inside.Telling.{tells_stale}
use Rattle.dy_repair.proofs.staleness.stale.Given as goal

abbrev pub invariant-loop-i : goal.invariant-loop-i
invariant-loop-i g l = record {
  so_far : map (λ s. s.now) l.list.items ≡ filter (tells_stale l.row) (take l.i l.seens);
  count : vec_len l.list ≤ l.i;
  room : length l.seens ≤ vec_capacity l.list;
}
