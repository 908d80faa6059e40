use Rattle.std.proofs.Common.{ℕ, ap, inl, inr, refl}
use Rattle.dy_lines.specs.declared.outcomes.Outcome.TheVariants.{Shown}
use Rattle.dy_commands.proofs.outages.run_show.Goals as goal

-- the rows that the cluster told, and the node of that number
pub returns-in-Ok : goal.returns-in-Ok
returns-in-Ok g c =
    let told = c.in-Ok.ensures.ok in
    inl (record {
      node = c.in-Some.ensures.some.0 refl;
      sized = c.in-Ok.ensures.sized;
      rows = told.0;
      shown = told.1;
      kept = c.in-Ok.kept;
      kept_are = told.2;
      tells = ap (λ (n : ℕ). Shown n c.in-Ok.kept) c.in-Some.ensures.value;
    })

-- why the key is refused
pub returns-in-Err : goal.returns-in-Err
returns-in-Err g c =
    let node = c.in-Some.ensures.some.0 refl in
    inr (c.in-Err.fault, inr (node, c.in-Err.ensures.only), c.refused-in-Err.ensures)
