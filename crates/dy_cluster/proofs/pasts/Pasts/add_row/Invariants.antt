use Rattle.std.proofs.Common.{◌≡◌, drop}
use Rattle.dy_cluster.specs.inside.Pasts.{with_row_pasts}
use Rattle.dy_cluster.proofs.pasts.Pasts.add_row.Given as goal

-- with the versions to come it is with all of them
abbrev pub invariant-loop-version : goal.invariant-loop-version
invariant-loop-version l =
    with_row_pasts l.self l.row.key (drop l.version-index l.row.versions)
    ≡ with_row_pasts l.initial.self l.row.key l.row.versions
