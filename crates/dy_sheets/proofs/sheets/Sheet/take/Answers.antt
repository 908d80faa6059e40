use Rattle.std.proofs.Common.{◌≡◌, ◌<◌, arith, get_or, length, refl}
use Rattle.std.proofs.lemmas.Grind.{get_or_default_zero}
use Rattle.dy_sheets.proofs.Owing.{answers_sent, at_place, sheet_awaits, sheet_gives}
use Rattle.dy_sheets.proofs.sheets.Sheet.take.Goals as goal

-- the ask has less left
pub invariant_of-self : goal.invariant_of-self
invariant_of-self g c =
    let place : c.args.answered.number < length c.self.inside.left.items = omega arith in
    let zeroed = get_or_default_zero c.self.inside.left.items c.args.answered.number
    c.index-left.result.now place in
    rw c.note_reply.ensures (
      sheet_gives _ _ _ _ _ _ c.left_after.result c.self.invariant.0 place
          (omega (arith, zeroed, c.left_after.ensures.less)) c.left_after.ensures.awaited,
      c.self.invariant.1,
      c.self.invariant.2,
    )

-- it is one to its ask, which had an answer left
pub returns-clause-some : goal.returns-clause-some
returns-clause-some g c =
    let place : c.args.answered.number < length c.self.inside.left.items = omega arith in
    let zeroed = get_or_default_zero c.self.inside.left.items c.args.answered.number
    c.index-left.result.now place in
    let same : c.index-left.result.now ≡ get_or c.self.inside.left.items c.args.answered.number 0 =
    omega (arith, zeroed) in
    rw (← c.self.view_is) (
      rw (c.note_reply.ensures, c.left_after.ensures.value, same) refl,
      answers_sent _ _ _ _ _ c.args.answered.number c.index-sent.result.now
          c.index-sent.result.now _ c.self.invariant.0 place c.index-sent.ensures
          c.only_fitting-answer.ensures.fits,
      sheet_awaits _ _ _ _ _ c.args.answered.number c.self.invariant.0 place
          (omega (arith, zeroed)),
    )

-- what is handed on is what fits what was kept of its ask
pub returns-clause-gives : goal.returns-clause-gives
returns-clause-gives g c =
    let place : c.args.answered.number < length c.self.inside.sent.items =
    omega (arith, c.self.invariant.0.left_count, c.self.invariant.0.sent_count) in
    rw (← c.self.view_is) (
      c.index-sent.result.now,
      at_place _ _ _ place c.index-sent.ensures,
      c.only_fitting-answer.ensures.fitted,
    )
