use Rattle.std.proofs.Common.{sym, ◌∙◌}
use Rattle.std.proofs.lemmas.Bool.{true≢false}
use Rattle.dy_index.proofs.holds.make_part_of.Goals as goal

-- the row has a version
pub returns-then-not-is_empty-clause-has : goal.returns-then-not-is_empty-clause-has
returns-then-not-is_empty-clause-has c =
    λ none. absurd (true≢false (sym (c.is_empty.ensures.1 none) ∙ c.if-not-is_empty.true))
