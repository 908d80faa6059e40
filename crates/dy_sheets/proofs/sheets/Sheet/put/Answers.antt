use Rattle.std.proofs.Common.{refl, sym}
use Rattle.dy_sheets.proofs.Owing.{room_left, sheet_asks}
use Rattle.dy_sheets.proofs.sheets.Sheet.put.Goals as goal

-- the new ask has two answers left
pub invariant_of-self : goal.invariant_of-self
invariant_of-self g c =
    rw (
      c.note_ask.ensures.told,
      c.push_reserved.ensures.items,
      c.push_reserved-2.ensures.items,
      c.push_reserved.ensures.capacity,
      c.push_reserved-2.ensures.capacity,
    ) (
      sheet_asks _ _ _ _ _ _ _ c.self.invariant.0 (room_left (sym c.self.view_is) c.requires.room)
          (refl, sym c.home_asked-home.ensures, c.requires.kept),
      c.self.invariant.1,
      c.self.invariant.2,
    )
