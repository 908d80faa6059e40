-- The versions of the row's dots are the row's, so they are a sibling set.
use Rattle.std.proofs.Common.{sym, ◌∙◌, subst}
use Rattle.dy_siblings.specs.Siblings.{IsSiblingSet}
use Rattle.dy_index.specs.Indexes.{made_in}
use Rattle.dy_index.specs.Lists.{AreCounted}
use Rattle.dy_index.specs.Readings.{AreOfDots}
use Rattle.dy_book.proofs.Reading.{index_counted, row_is}
use Rattle.dy_book.proofs.steps.row_of.Goals as goal

pub versions_of-requires : goal.versions_of-requires
versions_of-requires c =
    let l = c.requires.logged in
    record {
      of_dots = (l.2.dots, l.2.runs_of, l.2.are_dots);
      counted = λ node. subst (λ o. AreCounted node 0 (made_in o node)) (sym c.get-part.ensures.value)
          (index_counted c.args.keys.now.entries l.0 l.1 c.args.key.now node);
    }

pub from_versions-requires : goal.from_versions-requires
from_versions-requires c =
    let l = c.requires.logged in
    let has = l.2.has in
    let vs = c.in_ok-versions.versions.items in
    let are = subst (λ o. AreOfDots (made_in o) l.2.dots vs) c.get-part.ensures.value
    (c.in_ok-versions.ensures.ok l.2.dots l.2.runs_of) in
    let same = row_is c.args.keys.now.entries l.0 l.1 c.args.key.now l.2.dots has vs are in
    subst (λ k. IsSiblingSet k vs) (has.key_is ∙ sym c.in_ok-own.ensures.value)
    (subst (IsSiblingSet l.0.key) (sym same) has.siblings)

pub returns-clause-ok : goal.returns-clause-ok
returns-clause-ok c = λ row l by_runs.
    let has = by_runs.has in
    let vs = c.in_ok-versions.versions.items in
    let are = subst (λ o. AreOfDots (made_in o) by_runs.dots vs) c.get-part.ensures.value
    (c.in_ok-versions.ensures.ok by_runs.dots by_runs.runs_of) in
    let same = row_is c.args.keys.now.entries row l c.args.key.now by_runs.dots has vs are in
    let key_is = c.in_ok-own.ensures.value ∙ sym has.key_is in
    c.from_versions.ensures ∙ (λ i. record { key = key_is i; versions = same i })
