use Rattle.std.proofs.Common.{◌≡◌, ◌++◌, drop}
use Rattle.dy_cluster.specs.inside.Pasts.{values_in}
use Rattle.dy_cluster.proofs.values.add_values.Given as goal

-- what was found, with what is to come
abbrev pub invariant-loop-version : goal.invariant-loop-version
invariant-loop-version l =
    l.found.items ++ values_in l.pasts l.row.key (drop l.version-index l.row.versions)
    ≡ l.initial.found.items ++ values_in l.pasts l.row.key l.row.versions
