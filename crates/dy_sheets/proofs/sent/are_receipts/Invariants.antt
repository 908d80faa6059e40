use Rattle.std.proofs.Common.{◌≡◌, take}
use Rattle.dy_sheets.specs.Kept.{receipts_at}
use Rattle.dy_sheets.proofs.sent.are_receipts.Given as goal

-- the receipts before are of the dots before
abbrev pub invariant-loop-i : goal.invariant-loop-i
invariant-loop-i g l = take l.i l.receipts ≡ receipts_at l.key (take l.i l.dots) l.to l.home
