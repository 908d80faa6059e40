use Rattle.std.proofs.Common.{Option, subst, sym}
use Rattle.dy_sheets.specs.Sheets.{FitsAnyKept}
use Rattle.dy_sheets.specs.declared.kept.Kept.{Kept}
use Rattle.dy_sheets.proofs.sent.Sent.fits.Goals as goal

-- nothing was kept
pub returns-in-None : goal.returns-in-None
returns-in-None g c =
    let P : Option Kept → Type 0 =
    λ k. FitsAnyKept c.args.self.now.to c.args.self.now.home k c.args.answer.now in (
      (λ t. subst P (sym c.in-None.is) (c.fits_nothing.ensures.0 t)),
      (λ f. c.fits_nothing.ensures.1 (subst P c.in-None.is f)),
    )
