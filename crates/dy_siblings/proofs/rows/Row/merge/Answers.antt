use Rattle.std.proofs.Common.{ap, ◌∙◌, sym, subst}
use Rattle.dy_siblings.specs.inside.Lists.{items_of}
use Rattle.dy_siblings.specs.inside.Merging.{IsMerge}
use Rattle.dy_siblings.specs.Siblings.{IsSameRow, IsSiblingSet, Siblings, merge}
use Rattle.dy_siblings.proofs.Walking.{merge_siblings}
use Rattle.dy_siblings.proofs.Merges.{unmerged}
use Rattle.dy_siblings.proofs.Following.{merge_follows_nothing, neither}
use Rattle.dy_siblings.proofs.rows.Row.merge.Goals as goal
use Rattle.dy_siblings.proofs.rows.Row.merge.Goals.{After-self-2-1}

is_merge : (c : After-self-2-1) → IsMerge (items_of c.self.inside.versions) (items_of c.other.inside.versions) (items_of c.in_ok-self-inside.field-0)
is_merge c =
    subst (λ x. IsMerge x (items_of c.other.inside.versions) (items_of c.in_ok-self-inside.field-0)) c.as_slice-mine.ensures
    (subst (λ y. IsMerge c.as_slice-mine.result.now y (items_of c.in_ok-self-inside.field-0)) c.as_slice-2.ensures c.in_ok-self-inside.ensures.ok)

pub invariant_of-self : goal.invariant_of-self
invariant_of-self c = record {
  siblings = merge_siblings c.self.inside.key (items_of c.self.inside.versions) (items_of c.other.inside.versions)
      (items_of c.in_ok-self-inside.field-0) (is_merge c) c.self.invariant.siblings
      (subst (λ key. IsSiblingSet key (items_of c.other.inside.versions))
      (ap (λ s. s.key) c.other.view_is ∙ sym c.requires.one_key ∙ sym (ap (λ s. s.key) c.self.view_is))
      c.other.invariant.siblings);
  pastless = λ no. let both = neither c.self.inside.may_follow c.other.inside.may_follow no in
      merge_follows_nothing (items_of c.self.inside.versions) (items_of c.other.inside.versions)
      (items_of c.in_ok-self-inside.field-0) (is_merge c)
      (c.self.invariant.pastless both.0) (c.other.invariant.pastless both.1);
}

pub returns-clause-ok : goal.returns-clause-ok
returns-clause-ok c =
    subst (IsSameRow (items_of c.in_ok-self-inside.field-0))
    (ap (λ s. merge s.versions (items_of c.other.inside.versions)) c.self.view_is ∙ ap (λ s. merge c.args.self.now.versions s.versions) c.other.view_is)
    (is_merge c).1

pub returns-clause-valid : goal.returns-clause-valid
returns-clause-valid c = (invariant_of-self c).siblings

-- what is merged with no version stays
pub returns-then-is_empty-clause-valid : goal.returns-then-is_empty-clause-valid
returns-then-is_empty-clause-valid c = subst (λ s. IsSiblingSet s.key s.versions) c.self.view_is c.self.invariant.siblings

pub returns-then-is_empty-clause-ok : goal.returns-then-is_empty-clause-ok
returns-then-is_empty-clause-ok c =
    let mine = c.args.self.now.versions in
    subst (λ l. IsSameRow mine (merge mine l)) (sym (c.is_empty.ensures.0 c.if-is_empty.true))
    (unmerged mine (returns-then-is_empty-clause-valid c).none_past)

-- both are one version: the merge is what is there
pub returns-then-are_one-clause-ok : goal.returns-then-are_one-clause-ok
returns-then-are_one-clause-ok c =
    let mine = items_of c.self.inside.versions in
    let theirs = items_of c.other.inside.versions in
    let merged : IsSameRow mine (merge mine theirs) =
    subst (λ x. IsSameRow x (merge x theirs)) c.as_slice-mine.ensures
    (subst (λ y. IsSameRow c.as_slice-mine.result.now (merge c.as_slice-mine.result.now y)) c.as_slice.ensures
    (c.are_one.ensures c.if-are_one.true).1) in
    subst (λ (s : Siblings). IsSameRow s.versions (merge s.versions c.args.other.now.versions)) c.self.view_is
    (subst (λ (s : Siblings). IsSameRow mine (merge mine s.versions)) c.other.view_is merged)
