-- The only version of the second list comes after all of the first.
use Rattle.std.proofs.Common.{refl}
use Rattle.dy_siblings.proofs.Lones.{last_is_lone, last_has_place}
use Rattle.dy_siblings.proofs.lone_versions.last_or_lone.Goals as goal

pub returns-then-are_before-clause-some : goal.returns-then-are_before-clause-some
returns-then-are_before-clause-some c =
    last_is_lone c.args.a.now c.in-Some.theirs.now (c.are_before.ensures c.if-are_before.true) c.args.b.now c.in-Some.ensures.some

pub returns-then-are_before-clause-place : goal.returns-then-are_before-clause-place
returns-then-are_before-clause-place c =
    last_has_place c.args.a.now c.in-Some.theirs.now (c.are_before.ensures c.if-are_before.true) _ refl
