-- A test that tells a stale answer.
use Rattle.std.specs.Prelude.{◌==◌, ◌&&◌, not, Bool}
use Rattle.std.specs.Cmp.Lexicographic.{pointwise}
use Rattle.dy_siblings.specs.Siblings.{Siblings, same_key}
use Rattle.dy_siblings.specs.inside.Conflicts.{same_version}
use Rattle.dy_core.specs.Logs.{Answer}

-- whether the answer's row has this one's key and versions
abbrev pub is_current : Siblings → Answer → Bool
is_current row a = same_key a.key row.key && pointwise same_version a.row row.versions

-- whether a home answered by itself, with another row
abbrev pub tells_stale : Siblings → Answer → Bool
tells_stale row a = (a.holder == a.home) && not (is_current row a)
