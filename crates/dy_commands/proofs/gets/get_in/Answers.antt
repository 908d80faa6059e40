use Rattle.std.specs.Prelude.{Result, Ok, Err, IfErr, IfOk, IsOk}
use Rattle.std.proofs.Common.{List, ℕ, refl, subst}
use Rattle.dy_dots.specs.declared.faults.Fault.{Fault}
use Rattle.dy_reads.specs.Lists.{homes_in}
use Rattle.dy_cluster.specs.Connections.{IsMended}
use Rattle.dy_cluster.specs.Lists.{list_of}
use Rattle.dy_commands.proofs.gets.get_in.Goals as goal

-- what is refused only where something was stale is done where nothing was
spared_by : {P : Type 0} (result : Result (Unit {0}) Fault) → IfErr result (λ _. P → ⊥) → P →
    IsOk result
spared_by (Ok done) stale current = refl
spared_by (Err fault) stale current = absurd (stale current)

-- what the get answered, and what its mending did for its key's own list
pub returns-in-Ok-clause-told : goal.returns-in-Ok-clause-told
returns-in-Ok-clause-told g c =
    let got = c.in-Ok.ensures.ok in
    let done = c.in-Ok.done in
    let naming = g.J.Naming in
    record {
      told = c.get.new.self;
      answer = Ok done;
      got = got;
      heard = c.in-Ok.ensures.told;
      mended = record {
        after = c.mend.new.self;
        answer = c.mend.result;
        ok = subst (λ (key : List ℕ). IfOk c.mend.result (λ _. IsMended
            (homes_in (list_of naming.ring naming.n key)) done.row done.seen.items
            c.get.new.self c.mend.new.self)) got.row_key c.mend.ensures.ok;
        memory = c.mend.ensures.memory;
        spared = spared_by c.mend.result c.mend.ensures.stale;
      };
      unheard = tt;
      refused = tt;
      tells = c.read.ensures;
    }

-- why the get was refused
pub returns-in-Err-clause-told : goal.returns-in-Err-clause-told
returns-in-Err-clause-told g c = record {
  told = c.get.new.self;
  answer = Err c.in-Err.refusal;
  got = tt;
  heard = tt;
  mended = tt;
  unheard = c.in-Err.ensures.err;
  refused = c.in-Err.ensures.refused;
  tells = c.not_read.ensures;
}
