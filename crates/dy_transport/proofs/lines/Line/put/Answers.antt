use Rattle.std.proofs.Common.{sym}
use Rattle.dy_transport.proofs.Waits.{later_is, puts_one, puts_two, room_left}
use Rattle.dy_transport.proofs.lines.Line.put.Goals as goal

-- a first answer, that nothing came, and a later one are put in line
pub invariant_of-self : goal.invariant_of-self
invariant_of-self g c =
    rw (
      c.note_ask-number.ensures.told,
      c.push_back_reserved.ensures.items,
      c.put_later.ensures.items,
      c.push_back_reserved.ensures.capacity,
      c.put_later.ensures.capacity,
    ) (
      puts_two _ _ _ _ _ c.args.to c.args.ask.now _ _ _ c.args.answer c.in-Some.answer
          c.self.invariant.0 (room_left (sym c.self.view_is) c.requires.room) c.note_ask-number.ensures.number
          c.home_asked-home.ensures c.requires.first
          (later_is _ _ _ c.in-Some.is c.requires.second)
          (later_is _ _ _ c.in-Some.is c.requires.awaited),
      c.self.invariant.1,
      c.self.invariant.2,
    )

-- the only answer is put in line
pub invariant_of-self-in_default : goal.invariant_of-self-in_default
invariant_of-self-in_default g c =
    rw (
      c.note_ask-number.ensures.told,
      c.push_back_reserved.ensures.items,
      c.push_back_reserved.ensures.capacity,
    ) (
      puts_one _ _ _ _ _ c.args.to c.args.ask.now _ _ _ c.args.answer c.self.invariant.0
          (room_left (sym c.self.view_is) c.requires.room) c.note_ask-number.ensures.number
          c.home_asked-home.ensures c.requires.first,
      c.self.invariant.1,
      c.self.invariant.2,
    )
