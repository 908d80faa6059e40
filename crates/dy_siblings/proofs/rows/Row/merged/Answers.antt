-- Both slices are the versions of their rows, of one key: so the merge of the lists is that of the
-- rows.
use Rattle.std.proofs.Common.{◌≡◌, ◌++◌, ap, ◌∙◌, sym, subst}
use Rattle.dy_siblings.specs.inside.Lists.{items_of}
use Rattle.dy_siblings.specs.inside.Merging.{IsMerge}
use Rattle.dy_siblings.specs.Siblings.{AreOneByDot, IsSameRow, IsSiblingSet, merge}
use Rattle.dy_siblings.proofs.Walking.{merge_siblings}
use Rattle.dy_siblings.proofs.Following.{merge_follows_nothing, neither}
use Rattle.dy_siblings.proofs.rows.Row.merged.Goals as goal
use Rattle.dy_siblings.proofs.rows.Row.merged.Goals.{In_ok-versions}

-- the slices are the versions of both rows
pub merged-requires-clause-agree : goal.merged-requires-clause-agree
merged-requires-clause-agree c =
    subst (λ x. AreOneByDot (x ++ c.as_slice-2.result.now)) mine
    (subst (λ y. AreOneByDot (c.args.self.now.versions ++ y)) theirs c.requires.agree)
  where
    mine : c.args.self.now.versions ≡ c.as_slice.result.now
    mine = sym (c.as_slice.ensures ∙ ap (λ s. s.versions) c.self.view_is)

    theirs : c.args.other.now.versions ≡ c.as_slice-2.result.now
    theirs = sym (c.as_slice-2.ensures ∙ ap (λ s. s.versions) c.other.view_is)

-- the merge of two rows of one key is a row of it
is_merge : (c : In_ok-versions) → IsMerge (items_of c.self.inside.versions) (items_of c.other.inside.versions)
    (items_of c.in_ok-versions.versions)
is_merge c =
    subst (λ x. IsMerge x (items_of c.other.inside.versions) (items_of c.in_ok-versions.versions))
    c.as_slice.ensures
    (subst (λ y. IsMerge c.as_slice.result.now y (items_of c.in_ok-versions.versions))
    c.as_slice-2.ensures c.in_ok-versions.ensures.ok)

pub invariant_of-result : goal.invariant_of-result
invariant_of-result c = record {
  siblings = subst (λ key. IsSiblingSet key (items_of c.in_ok-versions.versions)) (sym c.in_ok-key.ensures.value)
      (merge_siblings c.self.inside.key (items_of c.self.inside.versions) (items_of c.other.inside.versions)
      (items_of c.in_ok-versions.versions) (is_merge c) c.self.invariant.siblings
      (subst (λ key. IsSiblingSet key (items_of c.other.inside.versions))
      (ap (λ s. s.key) c.other.view_is ∙ sym c.requires.one_key
      ∙ sym (ap (λ s. s.key) c.self.view_is)) c.other.invariant.siblings));
  pastless = λ no. let both = neither c.self.inside.may_follow c.other.inside.may_follow no in
      merge_follows_nothing (items_of c.self.inside.versions) (items_of c.other.inside.versions)
      (items_of c.in_ok-versions.versions) (is_merge c)
      (c.self.invariant.pastless both.0) (c.other.invariant.pastless both.1);
}

pub returns-clause-ok : goal.returns-clause-ok
returns-clause-ok c =
    subst (IsSameRow (items_of c.in_ok-versions.versions))
    (ap (λ l. merge l c.as_slice-2.result.now)
    (c.as_slice.ensures ∙ ap (λ s. s.versions) c.self.view_is)
    ∙ ap (merge c.args.self.now.versions)
    (c.as_slice-2.ensures ∙ ap (λ s. s.versions) c.other.view_is))
    c.in_ok-versions.ensures.ok.1

pub returns-clause-valid : goal.returns-clause-valid
returns-clause-valid c = (invariant_of-result c).siblings
