use Rattle.std.proofs.Common.{subst}
use Rattle.std.proofs.lemmas.Result.{IfOk-weaker}
use Rattle.std.specs.FinMap as maps
use Rattle.dy_node_store.specs.Rows.{Rows, with_versions}
use Rattle.dy_node_store.specs.Kept.{Kept}
use Rattle.dy_node_store.specs.Absorbing.{IsAbsorbed}
use Rattle.dy_node_store.proofs.AbsorbLemmas.{absorbed_in}
use Rattle.dy_node_store.proofs.stores.NodeStore.absorb.Goals as goal

-- the counters stay
pub returns-clause-ok : goal.returns-clause-ok
returns-clause-ok c =
    let row = c.args.row.now in
    let counters = maps.from_entries c.self.inside.counters.entries in
    IfOk-weaker c.absorb.result _ _
    (λ placed ok. subst (λ (s : Kept). IsAbsorbed s (record { rows = c.absorb.new.self; counters = counters })
    (λ vs. record s { rows = with_versions s.rows row.key vs }) (maps.get s.rows row.key) row
    placed) c.self.view_is
    (absorbed_in (λ (rows : Rows). record { rows = rows; counters = counters })
    c.self.inside.rows c.absorb.new.self (with_versions c.self.inside.rows row.key)
    (maps.get c.self.inside.rows row.key) row placed ok))
    c.absorb.ensures.ok
