use Rattle.std.proofs.Common.{ℕ, ◌<◌, get_or}
use Rattle.dy_shares.specs.Shares.{ReceiptParts}
use Rattle.dy_quorum.specs.Tallies.{Agrees}
use Rattle.dy_quorum.proofs.tallies.all_agree.Given as goal

abbrev pub invariant-loop-one : goal.invariant-loop-one
invariant-loop-one g l = (k : ℕ) (d : ReceiptParts) → k < l.one-index → Agrees (get_or l.list k d) l.receipt
