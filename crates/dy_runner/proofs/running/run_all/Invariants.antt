use Rattle.std.proofs.Common.{◌≡◌, List, length, map, take}
use Rattle.std.specs.Io.KnownBytes.{Appends}
use Rattle.dy_cluster.specs.Settings.{setting}
use Rattle.dy_lines.specs.declared.outcomes.Outcome.{Outcome}
use Rattle.dy_commands.specs.Commands.{none_seated, seated}
use Rattle.dy_runner.specs.Runs.{DoAll, lines_from}
use Rattle.dy_runner.proofs.running.run_all.Given as goal
use Rattle.dy_script.specs.Orders.{command_parts}

-- the cluster stays, and each session that was opened has a number; the commands so far are done,
-- and their lines written
abbrev pub invariant-loop-index : goal.invariant-loop-index
invariant-loop-index g l =
    record {
      cluster : l.lent.cluster.now ≡ l.initial.lent.cluster.now;
      together : length l.runner.seats.numbers.items ≡ length l.lent.sessions.items;
      so_far : (outcomes : List Outcome)
          × DoAll (setting g.row.J.Denot g.J.Naming.ring g.J.Naming.n g.J.Naming.r
          l.initial.lent.cluster.now.options) l.script.w
          (map command_parts (take l.index l.script.run.items))
          outcomes none_seated
          (seated l.runner.seats l.lent.sessions.items)
          × Appends (g.O.Write.contents l.initial.out) (g.O.Write.contents l.out)
          (lines_from 1 outcomes);
    }
