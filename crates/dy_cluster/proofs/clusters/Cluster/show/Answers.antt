use Rattle.std.proofs.Common.{◌≡◌, ◌∙◌, map, ap}
use Rattle.std.proofs.lemmas.List.{take_all}
use Rattle.dy_cluster.proofs.Shown.{all_shown}
use Rattle.dy_cluster.proofs.clusters.Cluster.show.Goals as goal

-- what is copied is what the node keeps
pub returns-clause-ok : goal.returns-clause-ok
returns-clause-ok g c =
    let all : c.loop-row.copies.items ≡ map (λ row. (row.0, row.1.now)) c.in_ok-rows.rows.items =
    c.loop-row.invariant
    ∙ ap (map (λ row. (row.0, row.1.now))) (take_all c.loop-row.row-index c.as_slice-row-items.result.now c.loop-row-test.false ∙ c.as_slice-row-items.ensures.value) in
    all_shown c.deref.result.now.rooms c.args.key.now _ c.loop-row.copies.items
    all c.in_ok-rows.ensures.value c.in_ok-rows.ensures.of_key
