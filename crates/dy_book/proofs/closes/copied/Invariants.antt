use Rattle.std.proofs.Common.{◌≡◌, take}
use Rattle.dy_book.proofs.closes.copied.Given as goal

abbrev pub invariant-loop-ack : goal.invariant-loop-ack
invariant-loop-ack l = l.copies.items ≡ take l.ack-index l.acks
