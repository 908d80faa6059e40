use Rattle.dy_shares.proofs.Whole.{held_from, held_in, acked_from, acked_in}
use Rattle.dy_shares.proofs.laws.shares_say_all.Goals as goal

pub returns-clause-held : goal.returns-clause-held
returns-clause-held c =
    λ nodes r a parts tellings all holder home key d. (
      held_from nodes r a parts tellings all holder home key d,
      held_in nodes r a parts tellings all
          holder home key d,
    )

pub returns-clause-acked : goal.returns-clause-acked
returns-clause-acked c =
    λ nodes r a parts tellings all x.
    (acked_from nodes r a parts tellings all x, acked_in nodes r a parts tellings all x)
