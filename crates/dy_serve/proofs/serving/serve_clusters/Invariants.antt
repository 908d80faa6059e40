-- All that was asked for so far was answered, and how each cluster was closed was printed.
use Rattle.dy_script.specs.Reading.{script_parts}
use Rattle.dy_serve.specs.Served.{service_of}
use Rattle.dy_serve.specs.inside.Stretches.{HasServedSo}
use Rattle.dy_serve.proofs.serving.serve_clusters.Given as goal

abbrev pub invariant-loop : goal.invariant-loop
invariant-loop g l =
    record {
      iterator : (goal.iterator-loop g).can_next l.iterator'
          × (goal.iterator-loop g).is_finite l.iterator';
      so_far : HasServedSo (service_of (script_parts l.setup.script.now) l.setup.plan.now.ring
          l.setup.with_steps)
          l.progress.closed l.progress.stop
          (g.I.Read.remaining l.fn.input) (g.I.Read.remaining l.input)
          (g.O.Write.contents l.fn.out) (g.O.Write.contents l.out);
    }
