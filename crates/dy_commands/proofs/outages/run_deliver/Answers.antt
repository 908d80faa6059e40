use Rattle.std.specs.Prelude.{Ok, Err, refl}
use Rattle.std.proofs.Common.{inl}
use Rattle.dy_dots.specs.declared.faults.Fault.TheVariants.{Down}
use Rattle.dy_commands.proofs.outages.run_deliver.Goals as goal

-- what the cluster answered
pub returns-in-Ok : goal.returns-in-Ok
returns-in-Ok g c = record {
  answer = Ok c.in-Ok.count;
  down = λ none. absurd (none (c.in-Some.ensures.some.0 refl));
  ok = c.in-Ok.ensures.ok;
  only = c.in-Ok.ensures.only;
  tells = refl;
}

-- why it could not
pub returns-in-Err : goal.returns-in-Err
returns-in-Err g c = record {
  answer = Err c.in-Err.fault;
  down = λ none. absurd (none (c.in-Some.ensures.some.0 refl));
  ok = c.in-Err.ensures.ok;
  only = c.in-Err.ensures.only;
  tells = c.refused-in-Err.ensures;
}

-- a node that there can't be is down
pub returns-in_default : goal.returns-in_default
returns-in_default g c = record {
  answer = Err Down;
  down = λ none. refl;
  ok = tt;
  only = inl refl;
  tells = c.refused.ensures;
}
