use Rattle.std.proofs.Common.{sym, subst}
use Rattle.dy_core.specs.inside.Meanings.{IsAfter}
use Rattle.dy_core.proofs.applying.make.Goals as goal

pub perform-requires : goal.perform-requires
perform-requires c = let r = c.requires in (r.0, c.args.steps.now.items, r.1, r.2)

pub returns-in-Ok-clause-row : goal.returns-in-Ok-clause-row
returns-in-Ok-clause-row c =
    c.in_ok-row.ensures.row c.requires.0 _ _ _
    (subst (λ hs. IsAfter c.requires.0 c.args.steps.now.items c.args.versions.now.items hs c.args.acked.now.items)
    (sym c.as_slice.ensures.value) c.requires.1)
