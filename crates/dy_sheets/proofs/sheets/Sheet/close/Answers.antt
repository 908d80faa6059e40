use Rattle.std.proofs.Common.{refl}
use Rattle.dy_sheets.proofs.Owing.{sheet_drained}
use Rattle.dy_sheets.proofs.sheets.Sheet.close.Goals as goal

-- each ask was answered
pub returns-in_default-clause-none : goal.returns-in_default-clause-none
returns-in_default-clause-none g c =
    rw c.note_none.ensures (
      rw (← c.self.view_is) refl,
      sheet_drained _ _ _ _ _ c.self.invariant.0
          (rw c.deref.ensures.value at c.in_default.ensures.none),
    )
