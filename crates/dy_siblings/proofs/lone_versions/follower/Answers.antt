use Rattle.std.proofs.Common.{sym, ◌∙◌}
use Rattle.dy_siblings.proofs.lone_versions.follower.Goals as goal

-- the second list's version follows, and is not followed
pub returns-then-not-precedes-clause-some : goal.returns-then-not-precedes-clause-some
returns-then-not-precedes-clause-some c = record {
  alone = c.in_ok-theirs.ensures.some;
  earlier = c.in_ok-mine.mine.now;
  before = c.in_ok-mine.ensures.some;
  follows = sym c.precedes.ensures ∙ c.if-precedes.true;
  not_back = sym c.precedes-then-precedes.ensures ∙ c.if-not-precedes.true;
}
