use Rattle.std.proofs.Common.{◌≡◌, ◌∷◌, rules}
use Rattle.std.proofs.lemmas.List.{nil_from_length}
use Rattle.dy_siblings.proofs.Walking.{finds_end, finds_on, finds_one}
use Rattle.dy_siblings.proofs.merging.are_among.Goals as goal

pub loop-mine-preserved-then-eq : goal.loop-mine-preserved-then-eq
loop-mine-preserved-then-eq c =
    let left_is : c.loop-mine.left.now ≡ c.in-Some.mine.now ∷ c.in-Some.rest.now = search rules in
    let right_is : c.loop-mine.right.now ≡ c.in-Some-split_first.theirs.now ∷ c.in-Some-split_first.others.now = search rules in
    let same : c.in-Some.mine.now.dot ≡ c.in-Some-split_first.theirs.now.dot = search rules in
    finds_one c.args.a.now c.args.b.now c.in-Some.mine.now c.in-Some-split_first.theirs.now c.loop-mine.left.now c.loop-mine.right.now
    c.in-Some.rest.now c.in-Some-split_first.others.now left_is right_is same c.loop-mine.invariant

pub loop-mine-preserved : goal.loop-mine-preserved
loop-mine-preserved c =
    let right_is : c.loop-mine.right.now ≡ c.in-Some-split_first.theirs.now ∷ c.in-Some-split_first.others.now = search rules in
    finds_on c.args.a.now c.args.b.now c.in-Some-split_first.theirs.now c.loop-mine.left.now c.loop-mine.right.now
    c.in-Some-split_first.others.now right_is c.loop-mine.invariant

pub returns : goal.returns
returns c = λ _.
    finds_end c.args.a.now c.args.b.now c.loop-mine.left.now c.loop-mine.right.now (nil_from_length _ c.in_default.ensures.cases) c.loop-mine.invariant
