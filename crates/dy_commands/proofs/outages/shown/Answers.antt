use Rattle.std.proofs.Common.{List, ℕ, sym, subst}
use Rattle.dy_siblings.specs.Siblings.{Siblings}
use Rattle.dy_cluster.specs.Shows.{IsShow}
use Rattle.dy_commands.proofs.outages.shown.Goals as goal

-- the rows that the cluster told, of the key of these bytes
pub returns-clause-ok : goal.returns-clause-ok
returns-clause-ok g c =
    let of_key = subst (λ (k : List ℕ). IsShow k c.in_ok-rows.rows.items) c.in-Ok.ensures.ok.0
    c.in_ok-rows.ensures.ok in (
      c.as_slice.result.now,
      subst (λ (rows : List (ℕ × Siblings)). IsShow c.args.key.now rows)
          (sym c.as_slice.ensures.value) of_key,
      c.in_ok-kept.ensures.ok,
    )
