-- They rise, so what comes after the last comes after all.
use Rattle.dy_siblings.proofs.Rising.{all_before}
use Rattle.dy_siblings.proofs.lone_versions.are_before.Goals as goal

pub returns-in-Some : goal.returns-in-Some
returns-in-Some c =
    λ yes. all_before c.in-Some.last.now c.args.versions.now c.in-Some.field-0-1.now c.in-Some.ensures.cases.0 c.requires
    c.args.other.now.dot (c.comes_before.ensures.yes yes)
