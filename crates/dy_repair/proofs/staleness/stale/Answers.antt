use Rattle.std.proofs.Common.{◌∙◌, ap, arith}
use Rattle.std.proofs.lemmas.List.{take_all}
use Rattle.std.specs.List.{filter}
use Rattle.dy_repair.specs.inside.Telling.{tells_stale}
use Rattle.dy_repair.proofs.Telling.{stale_told}
use Rattle.dy_repair.proofs.staleness.stale.Goals as goal

-- at the end all answers are gone through
pub returns-clause-ok : goal.returns-clause-ok
returns-clause-ok g c =
    let ended = c.loop-i-test.false in
    record {
      is_stale = tells_stale c.args.row.now;
      tells = stale_told c.args.row.now;
      kept = c.loop-i.invariant.so_far ∙ ap (filter (tells_stale c.args.row.now))
          (take_all c.loop-i.i c.args.seens.now (omega (arith, ended)));
    }
