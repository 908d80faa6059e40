use Rattle.std.proofs.Common.{sym, ◌∙◌}
use Rattle.std.proofs.lemmas.List.{nil_from_length}
use Rattle.dy_dots.proofs.SameDots.{meet_dots}
use Rattle.dy_siblings.proofs.Conflicts.{compares_left, compares_right, compares_both, compares_right_end}
use Rattle.dy_siblings.proofs.merging.lists_conflict.Goals as goal

-- no version of the right list is left
pub returns-in_default-split_first : goal.returns-in_default-split_first
returns-in_default-split_first c =
    compares_right_end c.args.a.now c.args.b.now c.loop-mine.left.now c.loop-mine.right.now c.loop-mine.invariant
    (nil_from_length _ c.in_default-split_first.ensures.cases)

-- the left list's first comes first
pub loop-mine-preserved-then-comes_before : goal.loop-mine-preserved-then-comes_before
loop-mine-preserved-then-comes_before c =
    compares_left c.args.a.now c.args.b.now c.loop-mine.left.now c.loop-mine.right.now
    c.in-Some.mine.now c.in-Some-split_first.theirs.now c.in-Some.rest.now c.in-Some-split_first.others.now
    c.loop-mine.invariant c.in-Some.ensures.cases.0 c.in-Some-split_first.ensures.cases.0
    (c.comes_before.ensures.yes c.if-comes_before.true)

-- the right list's first comes first
pub loop-mine-preserved-then-comes_before-2 : goal.loop-mine-preserved-then-comes_before-2
loop-mine-preserved-then-comes_before-2 c =
    compares_right c.args.a.now c.args.b.now c.loop-mine.left.now c.loop-mine.right.now
    c.in-Some.mine.now c.in-Some-split_first.theirs.now c.in-Some.rest.now c.in-Some-split_first.others.now
    c.loop-mine.invariant c.in-Some.ensures.cases.0 c.in-Some-split_first.ensures.cases.0
    (c.comes_before-else-comes_before.ensures.yes c.if-comes_before-2.true)

-- both have one dot, and do not conflict
pub loop-mine-preserved : goal.loop-mine-preserved
loop-mine-preserved c =
    compares_both c.args.a.now c.args.b.now c.loop-mine.left.now c.loop-mine.right.now
    c.in-Some.mine.now c.in-Some-split_first.theirs.now c.in-Some.rest.now c.in-Some-split_first.others.now
    c.loop-mine.invariant c.in-Some.ensures.cases.0 c.in-Some-split_first.ensures.cases.0
    (sym (meet_dots c.in-Some.mine.now.dot c.in-Some-split_first.theirs.now.dot (c.comes_before.ensures.no c.if-comes_before.false) (c.comes_before-else-comes_before.ensures.no c.if-comes_before-2.false)))
    (sym c.conflicts.ensures ∙ c.if-conflicts.false)
