-- The slices are the versions of both rows, of one key: so what stands beside the one list stands
-- beside the row.
use Rattle.std.proofs.Common.{◌++◌, insert, ap, ◌∙◌, not, sym, subst}
use Rattle.dy_siblings.specs.Siblings.{AreOneByDot, IsBeside, IsSameRow, IsSiblingSet, merge, without}
use Rattle.dy_siblings.specs.inside.Lists.{items_of, FollowNothing}
use Rattle.dy_siblings.specs.inside.Merging.{HasMore, IsMerge, IsPlaceOf}
use Rattle.dy_siblings.proofs.Besided.{beside_merges, put_at_place, taken_back}
use Rattle.dy_siblings.proofs.Walking.{merge_siblings}
use Rattle.dy_siblings.proofs.Following.{is_so, more_follows_nothing, neither}
use Rattle.dy_siblings.proofs.rows.Row.put_beside.Goals as goal
use Rattle.dy_siblings.proofs.rows.Row.put_beside.Goals.{After-dot}

module _ (c : After-dot) where
  theirs : IsSiblingSet c.self.inside.key (items_of c.other.inside.versions)
  theirs =
      subst (λ key. IsSiblingSet key (items_of c.other.inside.versions))
      (ap (λ s. s.key) c.other.view_is ∙ sym c.requires.one_key ∙ sym (ap (λ s. s.key) c.self.view_is)) c.other.invariant.siblings

  beside : IsBeside (items_of c.self.inside.versions) (items_of c.other.inside.versions) c.in-Some.version.now
  beside =
      subst (λ x. IsBeside x (items_of c.other.inside.versions) c.in-Some.version.now) c.as_slice-own.ensures
      (subst (λ y. IsBeside c.as_slice-own.result.now y c.in-Some.version.now) c.as_slice.ensures c.in-Some.ensures.some)

  has_more : HasMore (items_of c.self.inside.versions) c.in-Some.version.now (items_of c.insert.new.self)
  has_more =
      subst (HasMore (items_of c.self.inside.versions) c.in-Some.version.now)
      (sym (c.in_ok-insert-in-Some.ensures.ok ∙ ap (insert (items_of c.self.inside.versions) c.in-Some.at) c.in_ok-copy-in-Some.ensures.value))
      (put_at_place (items_of c.self.inside.versions) c.in-Some.version.now c.in-Some.at c.self.invariant.siblings.rise
      (subst (λ x. IsPlaceOf x c.in-Some.version.now.dot c.in-Some.at) c.as_slice-own.ensures c.in-Some.ensures.place))

  agree : AreOneByDot (items_of c.self.inside.versions ++ items_of c.other.inside.versions)
  agree =
      subst (λ s. AreOneByDot (s.versions ++ items_of c.other.inside.versions)) (sym c.self.view_is)
      (subst (λ s. AreOneByDot (c.args.self.now.versions ++ s.versions)) (sym c.other.view_is) c.requires.agree)

  is_merge : IsMerge (items_of c.self.inside.versions) (items_of c.other.inside.versions) (items_of c.insert.new.self)
  is_merge =
      beside_merges (items_of c.self.inside.versions) (items_of c.other.inside.versions) c.in-Some.version.now beside
      (items_of c.insert.new.self) has_more c.self.inside.key c.self.invariant.siblings theirs agree

  siblings : IsSiblingSet c.self.inside.key (items_of c.insert.new.self)
  siblings =
      merge_siblings c.self.inside.key (items_of c.self.inside.versions) (items_of c.other.inside.versions)
      (items_of c.insert.new.self) is_merge c.self.invariant.siblings theirs

pub beside-requires-clause-pastless : goal.beside-requires-clause-pastless
beside-requires-clause-pastless c =
    λ no. subst FollowNothing (sym c.as_slice-own.ensures) (c.self.invariant.pastless no)

pub invariant_of-self-in-Some : goal.invariant_of-self-in-Some
invariant_of-self-in-Some c = record {
  siblings = siblings c;
  pastless = λ no. let both = neither c.self.inside.may_follow (not c.is_empty.result) no in
      more_follows_nothing (items_of c.self.inside.versions) c.in-Some.version.now (items_of c.insert.new.self)
      (has_more c) (c.self.invariant.pastless both.0)
      (sym c.past.ensures.value ∙ c.is_empty.ensures.0 (is_so c.is_empty.result both.1));
}

pub returns-in_ok-insert-in-Some-clause-merge : goal.returns-in_ok-insert-in-Some-clause-merge
returns-in_ok-insert-in-Some-clause-merge c =
    subst (IsSameRow (items_of c.insert.new.self))
    (ap (λ s. merge s.versions (items_of c.other.inside.versions)) c.self.view_is
    ∙ ap (λ s. merge c.args.self.now.versions s.versions) c.other.view_is)
    (is_merge c).1

pub returns-in_ok-insert-in-Some-clause-back : goal.returns-in_ok-insert-in-Some-clause-back
returns-in_ok-insert-in-Some-clause-back c =
    ap (without (items_of c.insert.new.self)) c.dot.ensures.value
    ∙ taken_back (items_of c.self.inside.versions) (items_of c.other.inside.versions) c.in-Some.version.now (beside c)
    (items_of c.insert.new.self) (has_more c) c.self.invariant.siblings.rise
    ∙ ap (λ s. s.versions) c.self.view_is

pub returns-in_ok-insert-in-Some-clause-place : goal.returns-in_ok-insert-in-Some-clause-place
returns-in_ok-insert-in-Some-clause-place c = (
  c.in-Some.version.now,
  sym c.dot.ensures.value,
  c.in_ok-insert-in-Some.ensures.ok
      ∙ ap (insert (items_of c.self.inside.versions) c.in-Some.at) c.in_ok-copy-in-Some.ensures.value
      ∙ ap (λ s. insert s.versions c.in-Some.at c.in-Some.version.now) c.self.view_is,
)

pub returns-in_ok-insert-in-Some-clause-beside : goal.returns-in_ok-insert-in-Some-clause-beside
returns-in_ok-insert-in-Some-clause-beside c = (
  c.in-Some.version.now,
  sym c.dot.ensures.value,
  subst (λ s. IsBeside s.versions c.args.other.now.versions c.in-Some.version.now) c.self.view_is
      (subst (λ s. IsBeside (items_of c.self.inside.versions) s.versions c.in-Some.version.now) c.other.view_is
      (beside c)),
)

pub returns-in_ok-insert-in-Some-clause-valid : goal.returns-in_ok-insert-in-Some-clause-valid
returns-in_ok-insert-in-Some-clause-valid c = siblings c
