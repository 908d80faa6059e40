use Rattle.std.proofs.Common.{sym, subst, ◌∙◌}
use Rattle.dy_siblings.specs.Siblings.{IsSiblingSet}
use Rattle.dy_siblings.specs.inside.Lists.{FollowNothing}
use Rattle.dy_siblings.proofs.rows.Row.from_versions.Goals as goal

pub invariant_of-result : goal.invariant_of-result
invariant_of-result c = record {
  siblings = subst (IsSiblingSet c.args.key) (sym c.of.ensures) c.requires;
  pastless = λ no. subst FollowNothing (c.as_slice.ensures.value ∙ sym c.of.ensures) (c.follow_any-may_follow.ensures.0 no);
}
