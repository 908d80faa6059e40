use Rattle.std.proofs.Common.{refl, arith, inl, inr}
use Rattle.dy_coord.proofs.Acked.{acked_of, refused_of, no_answers_of}
use Rattle.dy_coord.proofs.puts.put.Goals as goal

-- no home was named
pub returns-then-w-lt1-clause-ends : goal.returns-then-w-lt1-clause-ends
returns-then-w-lt1-clause-ends g c =
    let small = c.if-w-lt1.true in
    inr (
      inl (omega arith),
      refl,
      refl,
      (
        c.early.result,
        refl,
        c.early.ensures.dot,
        c.early.ensures.answers,
        c.early.ensures.fault,
      ),
    )

-- more than there are were named
pub returns-then-w-homes-clause-ends : goal.returns-then-w-homes-clause-ends
returns-then-w-homes-clause-ends g c =
    let large = c.if-w-homes.true in
    let count = c.homes.ensures.count in
    inr (
      inr (omega arith),
      refl,
      refl,
      (
        c.early-then-w-homes.result,
        refl,
        c.early-then-w-homes.ensures.dot,
        c.early-then-w-homes.ensures.answers,
        c.early-then-w-homes.ensures.fault,
      ),
    )

-- it is Ok where the session was told one ack more, and refused where it was told nothing
pub returns-clause-ok : goal.returns-clause-ok
returns-clause-ok g c =
    acked_of c.args.list.now c.args.w c.args.key.now c.args.context.now c.args.value
    c.args.session.now c.put_in_range.new.session (g.T.Transport.told c.put_in_range.new.transport)
    c.put_in_range.result c.put_in_range.ensures.runs

pub returns-clause-err : goal.returns-clause-err
returns-clause-err g c =
    refused_of c.args.list.now c.args.w c.args.key.now c.args.context.now c.args.value
    c.args.session.now c.put_in_range.new.session (g.T.Transport.told c.put_in_range.new.transport)
    c.put_in_range.result c.put_in_range.ensures.runs

-- and but for want of homes it lists no answers
pub returns-clause-no_answers : goal.returns-clause-no_answers
returns-clause-no_answers g c =
    no_answers_of c.args.list.now c.args.w c.args.key.now c.args.context.now c.args.value
    c.args.session.now c.put_in_range.new.session (g.T.Transport.told c.put_in_range.new.transport)
    c.put_in_range.result c.put_in_range.ensures.runs
