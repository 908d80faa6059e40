use Rattle.std.proofs.Common.{sym, ◌∙◌}
use Rattle.std.proofs.lemmas.List.{nil_from_length}
use Rattle.dy_dots.proofs.Parts.{compares_covered, compares_below, compares_empty, compares_missing}
use Rattle.dy_dots.proofs.runs.include.Goals as goal

-- a run that is left is missing where no run is left to hold it
pub returns-in_default-split_first-clause-no : goal.returns-in_default-split_first-clause-no
returns-in_default-split_first-clause-no c fails =
    compares_empty c.args.runs.now c.args.others.now c.loop-other.left.now c.loop-other.right.now c.in-Some.other.now c.in-Some.others_rest.now c.loop-other.invariant (nil_from_length _ c.in_default-split_first.ensures.cases) c.in-Some.ensures.cases.0

pub loop-other-preserved-then-covers : goal.loop-other-preserved-then-covers
loop-other-preserved-then-covers c =
    compares_covered c.args.runs.now c.args.others.now c.loop-other.left.now c.loop-other.right.now c.in-Some-split_first.run'.now c.in-Some.other.now c.in-Some-split_first.runs_rest.now c.in-Some.others_rest.now c.loop-other.invariant c.in-Some-split_first.ensures.cases.0 c.in-Some.ensures.cases.0 (sym c.covers.ensures ∙ c.if-covers.true)

pub loop-other-preserved : goal.loop-other-preserved
loop-other-preserved c =
    compares_below c.args.runs.now c.args.others.now c.loop-other.left.now c.loop-other.right.now c.in-Some-split_first.run'.now c.in-Some.other.now c.in-Some-split_first.runs_rest.now c.in-Some.others_rest.now c.loop-other.invariant c.in-Some-split_first.ensures.cases.0 c.in-Some.ensures.cases.0 (c.is_below.ensures.yes c.if-is_below.true)

pub returns-else-is_below-clause-no : goal.returns-else-is_below-clause-no
returns-else-is_below-clause-no c fails =
    compares_missing c.args.runs.now c.args.others.now c.loop-other.left.now c.loop-other.right.now c.in-Some-split_first.run'.now c.in-Some.other.now c.in-Some-split_first.runs_rest.now c.in-Some.others_rest.now c.loop-other.invariant c.in-Some-split_first.ensures.cases.0 c.in-Some.ensures.cases.0 (c.is_below.ensures.no c.if-is_below.false) (sym c.covers.ensures ∙ c.if-covers.false)
