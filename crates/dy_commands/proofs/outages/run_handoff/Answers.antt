use Rattle.std.specs.Prelude.{Ok, Err, refl, ℕ}
use Rattle.std.proofs.Common.{inl, subst}
use Rattle.dy_dots.specs.declared.faults.Fault.TheVariants.{Down}
use Rattle.dy_handoff.specs.Passes.{IsPass}
use Rattle.dy_transport.specs.Told.{Told}
use Rattle.dy_commands.proofs.outages.run_handoff.Goals as goal

-- what the cluster answered, at the node of that number
pub returns-in-Ok : goal.returns-in-Ok
returns-in-Ok g c = record {
  answer = Ok c.in-Ok.pass;
  down = λ none. absurd (none (c.in-Some.ensures.some.0 refl));
  ok = subst (λ (n : ℕ). (told : Told g.row.J.Denot)
      × IsPass {J = g.row.J.Denot} n told c.in-Ok.pass) c.in-Some.ensures.value c.in-Ok.ensures.ok;
  fewer = c.in-Ok.ensures.fewer;
  only = c.in-Ok.ensures.only;
  tells = refl;
}

-- why it could not
pub returns-in-Err : goal.returns-in-Err
returns-in-Err g c = record {
  answer = Err c.in-Err.fault;
  down = λ none. absurd (none (c.in-Some.ensures.some.0 refl));
  ok = c.in-Err.ensures.ok;
  fewer = c.in-Err.ensures.fewer;
  only = c.in-Err.ensures.only;
  tells = c.refused-in-Err.ensures;
}

-- a node that there can't be is down
pub returns-in_default : goal.returns-in_default
returns-in_default g c = record {
  answer = Err Down;
  down = λ none. refl;
  ok = tt;
  fewer = tt;
  only = inl refl;
  tells = c.refused.ensures;
}
