use Rattle.std.proofs.Common.{[], sym, ap, ◌∙◌}
use Rattle.dy_shares.proofs.Batons.{readies_moves}
use Rattle.dy_shares.proofs.chronicles.new_baton.Goals as goal

pub compare_exchange-found-requires : goal.compare_exchange-found-requires
compare_exchange-found-requires c =
    let h = c.requires.head in
    let seen = c.again-seen.ensures in
    let offer = c.plain-offer.ensures in
    let pen = c.no_pen-pen.ensures in
    let here = ap (λ w. w.book) h in
    let book = ap (λ s. s.book) seen in (
      ap (λ w. w.tracked) h,
      book ∙ sym here,
      pen.0 ∙ (book ∙ sym here),
      offer.0,
      rw (ap (λ w. w.key) h, pen.1, offer.3) (readies_moves c.again-seen.result.log [] c.args.number),
    )
