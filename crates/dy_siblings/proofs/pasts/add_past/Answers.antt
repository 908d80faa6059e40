use Rattle.std.proofs.Common.{sym, ◌∙◌}
use Rattle.dy_siblings.proofs.Histories.{with_none}
use Rattle.dy_siblings.proofs.pasts.add_past.Goals as goal

-- an empty past adds nothing
pub returns-then-is_empty-clause-ok : goal.returns-then-is_empty-clause-ok
returns-then-is_empty-clause-ok c =
    with_none c.args.past.now c.args.version.now.past (sym c.past.ensures.value ∙ c.is_empty.ensures.0 c.if-is_empty.true)
