use Rattle.std.proofs.Common.{◌↔◌, drop}
use Rattle.dy_siblings.specs.inside.Lists.{FollowNothing}
use Rattle.dy_siblings.proofs.lone_versions.follow_any.Given as goal

abbrev pub invariant-loop-version : goal.invariant-loop-version
invariant-loop-version l = FollowNothing (drop l.version-index l.versions) ↔ FollowNothing l.versions
