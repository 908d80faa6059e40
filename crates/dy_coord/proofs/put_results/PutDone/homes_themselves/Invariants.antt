use Rattle.std.proofs.Common.{◌≡◌, ◌≤◌, length, take}
use Rattle.dy_shares.specs.Shares.{own_homes}
use Rattle.dy_coord.proofs.put_results.PutDone.homes_themselves.Given as goal

-- those before are counted
abbrev pub invariant-loop-receipt : goal.invariant-loop-receipt
invariant-loop-receipt g l = record {
  count : l.count ≡ length (own_homes (take l.receipt-index l.self.spent.items));
  few : l.count ≤ l.receipt-index;
}
