use Rattle.std.proofs.Common.{◌≡◌, length, map, take}
use Rattle.dy_cluster.specs.Settings.{setting}
use Rattle.dy_commands.specs.Commands.{none_seated, seated}
use Rattle.dy_runner.specs.Runs.{DoAll, outcomes_in}
use Rattle.dy_runner.proofs.recordings.record_all.Given as goal
use Rattle.dy_script.specs.Orders.{command_parts}

-- the cluster stays, and each session that was opened has a number; the commands so far are done,
-- and recorded
abbrev pub invariant-loop-command : goal.invariant-loop-command
invariant-loop-command g l =
    record {
      cluster : l.lent.cluster.now ≡ l.initial.lent.cluster.now;
      together : length l.runner.seats.numbers.items ≡ length l.lent.sessions.items;
      so_far : DoAll (setting g.row.J.Denot g.J.Naming.ring g.J.Naming.n g.J.Naming.r
          l.initial.lent.cluster.now.options) l.script.w
          (map command_parts (take l.command-index l.script.run.items)) (outcomes_in l.plays.items) none_seated
          (seated l.runner.seats l.lent.sessions.items);
    }
