use Rattle.std.proofs.Common.{◌≡◌, ◌≤◌, ◌*◌, ◌^◌, length, take}
use Rattle.std.specs.List.{sum_by}
use Rattle.dy_lines.proofs.audits.count_versions.Given as goal

-- the sum so far, each term of which is below 2^64
abbrev pub invariant-loop-holding : goal.invariant-loop-holding
invariant-loop-holding l = record {
  sum : l.count ≡ sum_by (λ h. length h.row.versions) (take l.holding-index l.held);
  few : l.count ≤ l.holding-index * 2 ^ 64;
}
