use Rattle.std.proofs.Common.{◌++◌, ◌∷◌, [], sym, ap, ◌∙◌}
use Rattle.dy_shares.proofs.Batons.{appends_moves}
use Rattle.dy_shares.specs.inside.Growth.{joined}
use Rattle.dy_shares.specs.inside.Parts.{entries_of}
use Rattle.dy_shares.proofs.Fronts.{joined_more}
use Rattle.dy_shares.proofs.chronicles.Chronicle.append.Goals as goal

pub compare_exchange-requires : goal.compare_exchange-requires
compare_exchange-requires g c =
    let i = c.self.invariant in
    let offer = c.plain-offer.ensures in
    let here = ap (λ w. w.book) i.1 in (
      ap (λ w. w.tracked) i.1,
      i.0 ∙ sym here,
      i.2 ∙ sym here,
      offer.0,
      rw (ap (λ w. w.key) i.1, i.3, offer.1, offer.3) (appends_moves c.self.inside.seen.log (entries_of c.args.batch.now.told c.args.batch.now.steps.now)),
    )

pub returns : goal.returns
returns g c =
    let log = c.self.inside.seen.log in
    let xs = (entries_of c.args.batch.now.told c.args.batch.now.steps.now) in
    let offer = c.plain-offer.ensures in
    let done = c.compare_exchange.ensures.7 in
    ap joined done ∙ (ap (λ a. joined (log ++ a ∷ [])) offer.1 ∙ (joined_more log xs ∙ ap (λ h. h ++ xs) c.self.view_is))
