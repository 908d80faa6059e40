use Rattle.std.proofs.Common.{rules, inr}
use Rattle.dy_dots.proofs.SameDots.{meet_dots}
use Rattle.dy_siblings.proofs.merging.split_next.Goals as goal

-- neither dot comes before the other's
pub returns-else-comes_before-2-clause-some : goal.returns-else-comes_before-2-clause-some
returns-else-comes_before-2-clause-some c =
    inr (inr (
      search rules,
      (
        c.in-Some-Some.other.now,
        search rules,
        meet_dots c.in-Some-Some.version.now.dot c.in-Some-Some.other.now.dot (c.comes_before.ensures.no c.if-comes_before.false) (c.comes_before-else-comes_before.ensures.no c.if-comes_before-2.false),
      ),
    ))
