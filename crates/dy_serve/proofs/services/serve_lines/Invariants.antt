-- Each line so far was answered, and none asks to renew the cluster.
use Rattle.std.proofs.Common.{◌≡◌, List, ℕ, false, length}
use Rattle.std.specs.Io.KnownBytes.{Appends}
use Rattle.dy_cluster.specs.Settings.{setting}
use Rattle.dy_serve.specs.Below.{standing}
use Rattle.dy_serve.specs.inside.Stretches.{ServesTo}
use Rattle.dy_serve.proofs.services.serve_lines.Given as goal

abbrev pub invariant-loop : goal.invariant-loop
invariant-loop g l =
    record {
      iterator : (goal.iterator-loop g).can_next l.iterator'
          × (goal.iterator-loop g).is_finite l.iterator';
      together : length l.opened.runner.seats.numbers.items ≡ length l.lent.sessions.items;
      cluster : l.lent.cluster.now ≡ l.initial.lent.cluster.now;
      terms : l.opened.terms ≡ l.initial.opened.terms;
      so_far : (bytes text : List ℕ)
          × ServesTo (setting g.row.J.Denot g.J.Naming.ring g.J.Naming.n g.J.Naming.r
          l.initial.lent.cluster.now.options) l.initial.opened.terms.ways
          l.initial.opened.terms.nodes
          l.fn.count l.count false false
          (standing l.initial.opened.runner.seats l.initial.lent.sessions.items
          l.initial.opened.mark)
          (standing l.opened.runner.seats l.lent.sessions.items l.opened.mark)
          (g.I.Read.remaining l.initial.input) (g.I.Read.remaining l.input) bytes text
          × Appends (g.O.Write.contents l.initial.out) (g.O.Write.contents l.out) text;
    }
