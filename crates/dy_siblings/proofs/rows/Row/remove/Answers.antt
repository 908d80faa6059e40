use Rattle.std.proofs.Common.{sym, ap, ◌∙◌, subst, not}
use Rattle.dy_dots.specs.Dots.{same_dot}
use Rattle.dy_siblings.specs.Siblings.{IsSiblingSet, without}
use Rattle.dy_siblings.specs.inside.Lists.{items_of, FollowNothing}
use Rattle.dy_siblings.proofs.Rising.{filter_siblings}
use Rattle.dy_siblings.proofs.Following.{less_follows_nothing}
use Rattle.dy_siblings.proofs.rows.Row.remove.Goals as goal

pub invariant_of-self : goal.invariant_of-self
invariant_of-self c =
    record {
      siblings = subst (IsSiblingSet c.self.inside.key) (sym c.remove.ensures)
          (filter_siblings (λ v. not (same_dot v.dot c.args.dot)) _ _ c.self.invariant.siblings);
      pastless = λ no. subst FollowNothing (sym c.remove.ensures)
          (less_follows_nothing (items_of c.self.inside.versions) c.args.dot (c.self.invariant.pastless no));
    }

pub returns-clause-versions : goal.returns-clause-versions
returns-clause-versions c =
    c.remove.ensures ∙ ap (λ s. without s.versions c.args.dot) c.self.view_is
