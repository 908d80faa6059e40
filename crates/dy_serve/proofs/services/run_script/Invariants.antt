-- The commands so far are done, and their lines written.
use Rattle.std.proofs.Common.{◌≡◌, List, ℕ, length, map, take}
use Rattle.std.specs.Io.KnownBytes.{Appends}
use Rattle.dy_cluster.specs.Settings.{setting}
use Rattle.dy_script.specs.Orders.{command_parts}
use Rattle.dy_serve.specs.Below.{none_standing, standing}
use Rattle.dy_serve.specs.Answers.{asked_of}
use Rattle.dy_serve.specs.inside.Meeting.{AreAnsweredHere}
use Rattle.dy_serve.proofs.services.run_script.Given as goal

abbrev pub invariant-loop-command : goal.invariant-loop-command
invariant-loop-command g l =
    record {
      together : length l.opened.runner.seats.numbers.items ≡ length l.lent.sessions.items;
      cluster : l.lent.cluster.now ≡ l.initial.lent.cluster.now;
      terms : l.opened.terms ≡ l.initial.opened.terms;
      count : l.count ≡ l.command-index;
      so_far : (text : List ℕ)
          × AreAnsweredHere (setting g.row.J.Denot g.J.Naming.ring g.J.Naming.n g.J.Naming.r
          l.initial.lent.cluster.now.options) l.initial.opened.terms.ways
          (asked_of (map command_parts (take l.command-index l.script.run.items))) 1 none_standing
          (standing l.opened.runner.seats l.lent.sessions.items l.opened.mark) text
          × Appends (g.O.Write.contents l.initial.out) (g.O.Write.contents l.out) text;
    }
