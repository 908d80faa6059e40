use Rattle.std.proofs.Common.{arith}
use Rattle.dy_commands.proofs.Seating.{seat_of-at, seat_of-none}
use Rattle.dy_commands.proofs.seats.index_of.Goals as goal

-- none before it has the number
pub returns-then-seated-number-clause-first : goal.returns-then-seated-number-clause-first
returns-then-seated-number-clause-first c =
    seat_of-at _ c.args.numbers.now _ c.loop-index-test.true c.loop-index.invariant
    c.if-seated-number.true

-- none has it
pub returns-clause-first : goal.returns-clause-first
returns-clause-first c =
    seat_of-none _ c.args.numbers.now _ (omega arith) c.loop-index.invariant
