use Rattle.std.proofs.Common.{sym, ◌∙◌}
use Rattle.dy_dots.proofs.SameDots.{same_dot_is}
use Rattle.dy_siblings.proofs.Merges.{one_merges}
use Rattle.dy_siblings.proofs.merging.newer.Goals as goal

-- both have one dot, so they are one
pub returns-then-eq : goal.returns-then-eq
returns-then-eq c = (
  _,
  one_merges c.args.mine.now c.args.theirs.now c.requires c.dot.ensures.valid
      (sym c.dot.ensures.value ∙ same_dot_is c.dot.result c.dot-2.result (sym c.eq.ensures ∙ c.if-eq.true) ∙ c.dot-2.ensures.value),
)
